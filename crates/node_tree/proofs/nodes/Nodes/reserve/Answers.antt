use Rattle.std.proofs.Common.{ℕ, ◌-◌, ◌/◌, sym, subst, vec_len}
use Rattle.std.specs.Prelude.{List}
use Rattle.std.specs.Vec.{vec_capacity}
use Rattle.node_tree.specs.declared.nodes.Entry.{Entry}
use Rattle.node_tree.specs.Entries.{nodes_of, replaced_of}
use Rattle.node_tree.specs.Replaced.{IsKept}
use Rattle.node_tree.proofs.Walking.{other_room}
use Rattle.node_tree.proofs.nodes.Nodes.reserve.Goals as goal

pub invariant_of-self-2 : goal.invariant_of-self-2
invariant_of-self-2 c =
    let room : ℕ = (vec_capacity c.reserve.new.self - vec_len c.reserve.new.self) / 2 in
    let before : ℕ = (vec_capacity c.self.inside.entries - vec_len c.self.inside.entries) / 2 in
    subst (λ (es : List Entry). IsKept (record { root = c.self.inside.root; nodes = nodes_of es; room = room }) (replaced_of es)) (sym c.reserve.ensures.items)
    (record {
      tree = other_room c.self.inside.root (nodes_of c.self.inside.entries.items) before room c.self.invariant.tree;
      few = c.self.invariant.few;
      replaced = c.self.invariant.replaced;
    })
