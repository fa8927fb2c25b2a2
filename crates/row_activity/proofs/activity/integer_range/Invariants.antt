use Rattle.row_activity.specs.Activity.{low_end, high_end}
use Rattle.row_activity.specs.IntegerSums.{IsIntegerSum}
use Rattle.row_activity.proofs.activity.integer_range.Given as goal

abbrev pub invariant-loop-index : goal.invariant-loop-index
invariant-loop-index l = record {
  low : IsIntegerSum low_end l.area l.terms l.index l.low;
  high : IsIntegerSum high_end l.area l.terms l.index l.high;
}
