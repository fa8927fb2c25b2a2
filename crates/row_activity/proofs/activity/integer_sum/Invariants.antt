use Rattle.row_activity.specs.Activity.{end_for}
use Rattle.row_activity.specs.IntegerSums.{IsIntegerSum}
use Rattle.row_activity.proofs.activity.integer_sum.Given as goal

abbrev pub invariant-loop-index : goal.invariant-loop-index
invariant-loop-index l = IsIntegerSum (end_for l.extreme) l.area l.terms l.index l.total
