use Rattle.std.proofs.Common.{◌≡◌, Some, ◌∙◌, ap, sym, arith}
use Rattle.node_tree.specs.declared.branch.Node.{Node}
use Rattle.node_tree.specs.Nodes.{branch_at}
use Rattle.node_tree.specs.Paths.{path_at}
use Rattle.node_tree.specs.Lemmas.Boxes.{length-box}
use Rattle.node_tree.specs.Lemmas.Insides.{reached_by}
use Rattle.node_tree.proofs.nodes.Nodes.enter.Goals as goal

pub tighten-requires : goal.tighten-requires
tighten-requires c =
    let t = c.args.self.now in
    let e : branch_at t c.args.node ≡ Some c.in-Some.branch = ap (λ (n : Node). n.branch) (sym c.entry.ensures.node) ∙ c.in-Some.is in
    let r = reached_by t c.conditions_hold.ensures.tree c.args.node c.in-Some.branch e in
    omega (arith, r.inside.there, length-box (path_at t c.in-Some.branch.parent) 0 t.root, c.requires.columns)
