use Rattle.std.proofs.Common.{◌≡◌, Some, ◌∙◌, ap, sym, subst, arith}
use Rattle.node_tree.specs.declared.branch.Node.{Node}
use Rattle.node_tree.specs.Nodes.{Tree, node_at}
use Rattle.node_tree.proofs.Walking.{second_child}
use Rattle.node_tree.proofs.tree.Tree.children.Goals as goal

pub overflow_add-result : goal.overflow_add-result
overflow_add-result c =
    let kept : (node_at c.self.inside.nodes c.args.node).first_child ≡ Some c.in-Some.first = ap (λ (n : Node). n.first_child) (sym c.entry.ensures.node) ∙ c.in-Some.is in
    let here : (node_at c.args.self.now c.args.node).first_child ≡ Some c.in-Some.first = subst (λ (t : Tree). (node_at t c.args.node).first_child ≡ Some c.in-Some.first) c.self.view_is kept in
    omega (arith, second_child c.args.self.now c.conditions_hold.ensures.tree c.conditions_hold.ensures.few c.args.node c.in-Some.first here)
