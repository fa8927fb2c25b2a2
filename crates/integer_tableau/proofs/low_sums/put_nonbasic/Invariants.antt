use Rattle.integer_tableau.proofs.KeptSums.{IsSaidBefore}
use Rattle.integer_tableau.proofs.low_sums.put_nonbasic.Given as goal

abbrev pub invariant-loop-column : goal.invariant-loop-column
invariant-loop-column l = IsSaidBefore l.denominator l.coefficients l.nonbasic l.column l.sums
