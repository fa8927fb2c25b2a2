use Rattle.std.proofs.Common.{◌≡◌, take}
use Rattle.dual_simplex.specs.Scaled.{point_over, AreNumerators}
use Rattle.dual_simplex.proofs.scaled_point.numerators_over.Given as goal

abbrev pub invariant-loop-column : goal.invariant-loop-column
invariant-loop-column l = record {
  point : point_over l.denominator l.numerators.items ≡ take l.column l.point;
  small : AreNumerators l.numerators.items;
}
