use Rattle.std.proofs.Common.{◌∙◌, sym}
use Rattle.node_tree.proofs.Walking.{parent_there, not_here}
use Rattle.node_tree.proofs.tree.Tree.setting.Goals as goal

pub loop-branch-smaller : goal.loop-branch-smaller
loop-branch-smaller c = (parent_there c.args.self.now c.conditions_hold.ensures.tree c.loop-branch.at c.in_Some-branch.branch (sym c.in_Some-branch.ensures)).0

pub loop-branch-preserved : goal.loop-branch-preserved
loop-branch-preserved c = record {
  there = (parent_there c.args.self.now c.conditions_hold.ensures.tree c.loop-branch.at c.in_Some-branch.branch (sym c.in_Some-branch.ensures)).1;
  same = sym (not_here c.args.self.now c.conditions_hold.ensures.tree c.args.column c.args.side c.loop-branch.at c.in_Some-branch.branch (sym c.in_Some-branch.ensures) (sym c.if-sets.ensures)) ∙ c.loop-branch.invariant.same;
}
