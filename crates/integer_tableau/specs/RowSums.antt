-- Sums of rows over the nonbasic columns: with the basic columns they give the values of rows.
use Rattle.std.specs.Prelude.{◌≡◌, ◌<◌, ◌≤◌, ◌+◌, ◌*◌, ◌^◌, ℕ, ℤ, pos, nat_abs, ◌+ℤ◌, ◌*ℤ◌, List, [], ◌∷◌, length, slice_index_or}
use Rattle.std.specs.Int.{w64, int_wrap}
use Rattle.integer_tableau.specs.Numbers.{number_at, total_size}
use Rattle.integer_tableau.specs.Positions.{products}
use Rattle.integer_tableau.specs.declared.coefficient_columns.CoefficientColumns.{CoefficientColumns}
use Rattle.integer_tableau.specs.declared.position.Position.{Position}
use Rattle.integer_tableau.specs.declared.position.Position.TheVariants.{InBasis, InColumn}

-- ---- columns
-- the coefficients of a linear program's rows, column by column; no row has coefficients of a greater size together than the weight
pub record AreColumnsOf (ps : List (List ℤ)) (columns : CoefficientColumns) : Type 0 where
  pub as_many : columns.rows ≡ length ps
  pub count : length columns.numbers.items ≡ columns.width * columns.rows
  pub full : (i : ℕ) → i < length ps → length (slice_index_or ps i []) ≡ columns.width
  pub weights : (i : ℕ) → i < length ps → total_size (slice_index_or ps i []) ≤ columns.weight
  pub each : (i j : ℕ) → i < length ps → j < columns.width → number_at columns.numbers.items (j * columns.rows + i) ≡ number_at (slice_index_or ps i []) j

-- ---- sums
-- what a nonbasic variable adds, by its value: a basic one nothing
abbrev pub nonbasic_value : Position → ℤ → ℤ
nonbasic_value InBasis x = pos 0
nonbasic_value (InColumn k) x = x

-- the sum over the nonbasic columns of coefficient times value
abbrev pub nonbasic_sum : List ℤ → List Position → List ℤ → ℤ
nonbasic_sum [] positions xs = pos 0
nonbasic_sum (a ∷ coefficients) [] xs = pos 0
nonbasic_sum (a ∷ coefficients) (s ∷ positions) [] = pos 0
nonbasic_sum (a ∷ coefficients) (s ∷ positions) (x ∷ xs) = a *ℤ nonbasic_value s x +ℤ nonbasic_sum coefficients positions xs

-- the sum over these columns
abbrev pub basic_products : List ℤ → List ℤ → List ℕ → ℤ
basic_products coefficients values [] = pos 0
basic_products coefficients values (j ∷ columns) = number_at coefficients j *ℤ number_at values j +ℤ basic_products coefficients values columns

-- those of the rows of a linear program, modulo 2^64
abbrev pub AreRowSums : List (List ℤ) → List Position → List ℤ → List ℤ → Type 0
AreRowSums ps positions xs sums = (i : ℕ) → i < length sums → int_wrap w64 (number_at sums i) ≡ int_wrap w64 (nonbasic_sum (slice_index_or ps i []) positions xs)

-- those of the rows of a linear program over all columns, of which each has its value, modulo 2^64
abbrev pub AreColumnSums : List (List ℤ) → List ℤ → List ℤ → Type 0
AreColumnSums ps values sums = (i : ℕ) → i < length sums → int_wrap w64 (number_at sums i) ≡ int_wrap w64 (products (slice_index_or ps i []) values)

-- ---- sizes
-- no column has a greater value over the denominator d than a size for which rows of this weight have values of 64 bits; no nonbasic one is greater than
-- `reach`
pub record IsNarrow (weight reach : ℕ) (d : ℤ) (columns : List ℕ) (values : List ℤ) : Type 0 where
  pub size : ℕ
  pub nonbasic : reach * nat_abs d ≤ size
  pub basic : (p : ℕ) → p < length columns → nat_abs (number_at values (slice_index_or columns p 0)) ≤ size
  pub room : weight * size < 2 ^ 63

-- what makes the values of rows those of the sums and the basic columns
pub record AreSummed (ps : List (List ℤ)) (weight reach : ℕ) (positions : List Position) (xs sums values : List ℤ) (columns : List ℕ) (d : ℤ) : Type 0 where
  pub sums_are : AreRowSums ps positions xs sums
  pub many : length values ≤ length xs
  pub bounded : (j : ℕ) → j < length values → nat_abs (number_at xs j) ≤ reach
  pub narrow : IsNarrow weight reach d columns values
