use Rattle.std.proofs.Common.{◌<◌, ◌∙◌, List, ap, subst, sym, length, to_z, of_z, w64, arith}
use Rattle.problem_box.specs.declared.span.Span.{Span}
use Rattle.node_tree.specs.Nodes.{Tree}
use Rattle.node_tree.specs.Paths.{path_at}
use Rattle.node_tree.specs.Trees.{IsTree}
use Rattle.node_tree.specs.Lemmas.Boxes.{length-box}
use Rattle.node_tree.proofs.Replacing.{box_stays}
use Rattle.node_tree.proofs.tree.Tree.split.Goals as goal

pub span-span-requires : goal.span-span-requires
span-span-requires c =
    let t = c.self.inside.nodes in
    let column : c.args.column < length t.root = subst (λ (t : Tree). c.args.column < length t.root) (sym c.self.view_is) c.requires.column_there in
    omega (arith, column, ap (λ (ss : List Span). length ss) c.walk.ensures, length-box (path_at t c.args.node) 0 t.root)

pub invariant_of-self : goal.invariant_of-self
invariant_of-self c =
    let t = c.self.inside.nodes in
    let tree : IsTree t = subst IsTree (sym c.self.view_is) c.conditions_hold.ensures.tree in
    let there : c.args.node < length t.nodes = subst (λ (t : Tree). c.args.node < length t.nodes) (sym c.self.view_is) c.requires.node_there in
    let stays = box_stays t c.split.new.self tree c.args.node c.args.column (to_z w64 (of_z w64 c.args.bound)) there c.split.ensures in
    (stays.0, c.walk.ensures ∙ sym stays.1)
