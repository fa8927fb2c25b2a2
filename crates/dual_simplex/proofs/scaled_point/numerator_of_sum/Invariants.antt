use Rattle.std.proofs.Common.{◌≡◌, ℕ, ◌≤◌, ◌*◌, drop}
use Rattle.std.specs.Prelude.{nat_abs}
use Rattle.fraction.specs.Rational.{frac}
use Rattle.dual_simplex.specs.PointSums.{checked_sum}
use Rattle.dual_simplex.specs.Scaled.{point_over, IsDenominator, largest_product}
use Rattle.dual_simplex.proofs.Sparse.{sum_of_terms}
use Rattle.dual_simplex.proofs.scaled_point.numerator_of_sum.Given as goal

abbrev pub invariant-loop-term : goal.invariant-loop-term
invariant-loop-term l = record {
  small : nat_abs l.total ≤ l.term-index * largest_product;
  sum : (d : ℕ) → IsDenominator d → sum_of_terms (frac l.total d) (drop l.term-index l.terms) (point_over d l.numerators) ≡ checked_sum l.terms (point_over d l.numerators);
}
