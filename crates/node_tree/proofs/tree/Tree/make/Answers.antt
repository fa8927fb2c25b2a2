use Rattle.std.proofs.Common.{◌<◌, ◌∙◌, ap, subst, sym, length, arith}
use Rattle.node_tree.specs.Nodes.{Tree}
use Rattle.node_tree.specs.Paths.{box_at}
use Rattle.node_tree.specs.Lemmas.Boxes.{box_of_root}
use Rattle.node_tree.proofs.tree.Tree.make.Goals as goal

pub invariant_of-result : goal.invariant_of-result
invariant_of-result c =
    let made = c.in_ok-nodes.ensures in
    (subst (λ (t : Tree). 0 < length t.nodes) (sym made) (omega arith), c.in_ok-area.ensures ∙ sym (box_of_root 0 c.args.root) ∙ ap (λ (t : Tree). box_at t 0) (sym made))
