use Rattle.std.proofs.Common.{◌+◌}
use Rattle.row_activity.proofs.Steps.{IsTotal}
use Rattle.row_activity.proofs.activity.sum_of_ends.Given as goal

abbrev pub invariant-loop-term : goal.invariant-loop-term
invariant-loop-term l = IsTotal l.extreme l.area l.terms (l.count + l.term-index) l.total
