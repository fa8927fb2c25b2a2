-- Combinations of lines as they are computed: each sum from 0 and in the multipliers' order, none where a product or a sum is cramped.
use Rattle.std.specs.Prelude.{ℕ, zero, suc, ◌+◌, pos, List, [], ◌∷◌, Option, Some, option_map}
use Rattle.std.specs.Option.{option_and_then}
use Rattle.fraction.specs.Rational.{ℚ, whole}
use Rattle.fraction.specs.Checked.{add_checked, mul_checked}
use Rattle.problem.specs.Linear.{Multipliers, coefficient}
use Rattle.cert_rows.specs.Lines.{CertLine, row_at}

-- a sum with a product more
abbrev pub with_product : ℚ → ℚ → ℚ → Option ℚ
with_product s m a = option_and_then (λ v. add_checked s v) (mul_checked m a)

-- on from the sum s: each multiplier times the number that its line has
abbrev pub sum_from : (ℕ → ℚ) → ℚ → Multipliers → Option ℚ
sum_from f s [] = Some s
sum_from f s (m ∷ ms) = option_and_then (λ t. sum_from f t ms) (with_product s m.1 (f m.0))

-- the coefficient of a line at a column
abbrev pub coefficient_at : List CertLine → ℕ → ℕ → ℚ
coefficient_at ls j i = coefficient (row_at ls i).terms j

-- the right side of a line
abbrev pub side_at : List CertLine → ℕ → ℚ
side_at ls i = (row_at ls i).rhs

-- the combination's coefficient at a column
abbrev pub combined_at : List CertLine → Multipliers → ℕ → Option ℚ
combined_at ls mult j = sum_from (coefficient_at ls j) (whole (pos 0)) mult

-- the combination's right side
abbrev pub combined_side : List CertLine → Multipliers → Option ℚ
combined_side ls mult = sum_from (side_at ls) (whole (pos 0)) mult

-- the combination's coefficients at the k columns from j on
abbrev pub combined_columns : List CertLine → Multipliers → ℕ → ℕ → Option (List ℚ)
combined_columns ls mult j zero = Some []
combined_columns ls mult j (suc k) = option_and_then (λ c. option_map (λ cs. c ∷ cs) (combined_columns ls mult (j + 1) k)) (combined_at ls mult j)

-- coefficients, column 0 first, and a right side
pub record Sums : Type 0 where
  pub coefficients : List ℚ
  pub side : ℚ

-- the sums of these coefficients and this right side
abbrev pub sums_of : List ℚ → ℚ → Sums
sums_of cs s = record { coefficients = cs; side = s }

-- the combination of lines over n columns
abbrev pub combined : List CertLine → Multipliers → ℕ → Option Sums
combined ls mult n = option_and_then (λ cs. option_map (sums_of cs) (combined_side ls mult)) (combined_columns ls mult 0 n)
