use Rattle.dual_simplex.specs.Scaled.{IsDenominator}
use Rattle.dual_simplex.proofs.scaled_point.common_denominator.Given as goal

abbrev pub invariant-loop-column : goal.invariant-loop-column
invariant-loop-column l = IsDenominator l.common
