use Rattle.std.proofs.Common.{◌≡◌, ◌<◌, ◌-◌, ◌/◌, List, Some, ◌∙◌, ap, subst, sym, length, vec_len, arith}
use Rattle.std.specs.Prelude.{pos, slice_index_or}
use Rattle.std.specs.Vec.{vec_capacity}
use Rattle.std.proofs.lemmas.List.{length-map, get_or-map}
use Rattle.node_tree.specs.declared.nodes.Entry.{Entry}
use Rattle.node_tree.specs.Nodes.{Tree, branch_at}
use Rattle.node_tree.specs.Entries.{nodes_of, replaced_of}
use Rattle.node_tree.specs.Replaced.{IsReplacedBy}
use Rattle.node_tree.proofs.nodes.Nodes.entry.Goals as goal

pub returns-clause-replaced : goal.returns-clause-replaced
returns-clause-replaced c = λ b e.
    let i = c.args.node in
    let es : List Entry = c.self.inside.entries.items in
    let p : Entry = c.index.result.now in
    let tree : Tree = record { root = c.self.inside.root; nodes = nodes_of es; room = (vec_capacity c.self.inside.entries - vec_len c.self.inside.entries) / 2 } in
    let node_there : i < length (nodes_of es) = subst (λ (t : Tree). i < length t.nodes) (sym c.self.view_is) c.requires in
    let there : i < length es = omega (arith, node_there, length-map es (λ (e : Entry). e.node)) in
    let kept : slice_index_or (replaced_of es) i (pos 0) ≡ p.replaced = get_or-map (λ (e : Entry). e.replaced) es i p (pos 0) there ∙ ap (λ (e : Entry). e.replaced) (sym c.index.ensures) in
    let reached : branch_at tree i ≡ Some b = subst (λ (t : Tree). branch_at t i ≡ Some b) (sym c.self.view_is) e in
    subst (λ (t : Tree). IsReplacedBy t b p.replaced) c.self.view_is (subst (IsReplacedBy tree b) kept (c.self.invariant.replaced i b reached))
