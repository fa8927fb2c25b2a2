use Rattle.std.proofs.Common.{◌+◌}
use Rattle.row_activity.specs.declared.activity.Extreme.TheVariants.{Least, Greatest}
use Rattle.row_activity.proofs.Steps.{IsTotal}
use Rattle.row_activity.proofs.activity.range.Given as goal

abbrev pub invariant-loop-term : goal.invariant-loop-term
invariant-loop-term l = record {
  low : IsTotal Least l.area l.terms (l.count + l.term-index) l.low;
  high : IsTotal Greatest l.area l.terms (l.count + l.term-index) l.high;
}
