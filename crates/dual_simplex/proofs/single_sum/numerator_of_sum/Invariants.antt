use Rattle.std.proofs.Common.{◌≡◌, ◌≤◌, ◌*◌, drop}
use Rattle.std.specs.Prelude.{nat_abs}
use Rattle.fraction.specs.Rational.{frac}
use Rattle.dual_simplex.specs.PointSums.{checked_sum}
use Rattle.dual_simplex.specs.Scaled.{largest_product}
use Rattle.dual_simplex.proofs.Sparse.{sum_of_terms}
use Rattle.dual_simplex.proofs.single_sum.numerator_of_sum.Given as goal

abbrev pub invariant-loop-term : goal.invariant-loop-term
invariant-loop-term l = record {
  small : nat_abs l.total ≤ l.term-index * largest_product;
  sum : sum_of_terms (frac l.total l.denominator) (drop l.term-index l.terms) l.point ≡ checked_sum l.terms l.point;
}
