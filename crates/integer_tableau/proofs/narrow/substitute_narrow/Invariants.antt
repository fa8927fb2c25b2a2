use Rattle.std.proofs.Common.{◌-◌, ◌*◌, ◌≤◌, length}
use Rattle.integer_tableau.proofs.Loops.{AreSubstitutedTo}
use Rattle.integer_tableau.proofs.narrow.substitute_narrow.Given as goal

abbrev pub invariant-loop-row : goal.invariant-loop-row
invariant-loop-row l = record {
  within : l.at ≤ length l.row;
  so_far : AreSubstitutedTo l.at l.raised_sums (2 * l.fn.divisor.reach) l.fn.divisor.zeros l.fn.divisor.number l.fn.row_factor l.fn.source_factor l.initial.row l.source l.row;
}

abbrev pub decreases-loop-row : goal.decreases-loop-row
decreases-loop-row l = length l.row - l.at
