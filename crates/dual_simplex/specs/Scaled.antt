-- Points over one common denominator, whose sums are sums of whole numbers.
use Rattle.std.specs.Prelude.{◌≡◌, ℕ, ◌<◌, ◌≤◌, ◌*◌, ◌^◌, ℤ, pos, nat_abs, List, map, All, Some, slice_index_or}
use Rattle.fraction.specs.Rational.{frac}
use Rattle.problem.specs.Linear.{Terms}
use Rattle.dual_simplex.specs.Relaxation.{RationalPoint}
use Rattle.dual_simplex.specs.PointSums.{checked_sum}

-- the point with these numerators over the denominator
abbrev pub point_over : ℕ → List ℤ → RationalPoint
point_over d zs = map (λ z. frac z d) zs

-- the numerator in a column, and 0 where there is no such column
abbrev pub numerator_at : List ℤ → ℕ → ℤ
numerator_at zs j = slice_index_or zs j (pos 0)

-- the largest denominator, and the largest numerator
abbrev pub largest_numerator : ℕ
largest_numerator = 2 ^ 74

-- the largest coefficient that such a numerator is multiplied with
abbrev pub largest_factor : ℕ
largest_factor = 2 ^ 40

-- the largest product of the two: the sum of one for each column, and of one more, is below 2^127, where there would be room for 8,191
abbrev pub largest_product : ℕ
largest_product = largest_factor * largest_numerator

-- a denominator of at most that size
pub record IsDenominator (d : ℕ) : Type 0 where
  pub positive : 0 < d
  pub small : d ≤ largest_numerator

-- numerators of at most that size
abbrev pub AreNumerators : List ℤ → Type 0
AreNumerators zs = All (λ z. nat_abs z ≤ largest_numerator) zs

-- whatever the denominator is, the sum at the point over it is this numerator over it
abbrev pub IsSumOver : Terms → List ℤ → ℤ → Type 0
IsSumOver ts zs t = (d : ℕ) → IsDenominator d → checked_sum ts (point_over d zs) ≡ Some (frac t d)
