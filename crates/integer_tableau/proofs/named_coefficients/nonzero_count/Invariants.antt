use Rattle.std.proofs.Common.{◌≤◌}
use Rattle.integer_tableau.proofs.named_coefficients.nonzero_count.Given as goal

abbrev pub invariant-loop-position : goal.invariant-loop-position
invariant-loop-position l = l.count ≤ l.position-index
