-- Where the numerators of a variable are: rows have one number for each nonbasic variable, by column.
use Rattle.std.specs.Prelude.{◌≡◌, ℕ, ◌<◌, ℤ, pos, ◌+ℤ◌, ◌*ℤ◌, List, [], ◌∷◌, length, map, slice_index_or}
use Rattle.fraction.specs.Rational.{ℚ, frac, whole}
use Rattle.integer_tableau.specs.Numbers.{number_at}
use Rattle.integer_tableau.specs.declared.position.Position.{Position}
use Rattle.integer_tableau.specs.declared.position.Position.TheVariants.{InBasis, InColumn}

-- ---- rows by variable
-- what a row says of a variable: its numerator, 0 for a basic one
abbrev pub numerator : List ℤ → Position → ℤ
numerator row InBasis = pos 0
numerator row (InColumn k) = number_at row k

-- over the denominator d
abbrev pub coefficient : ℕ → List ℤ → Position → ℚ
coefficient d row InBasis = whole (pos 0)
coefficient d row (InColumn k) = frac (number_at row k) d

-- the coefficients of all variables
abbrev pub coefficients : ℕ → List Position → List ℤ → List ℚ
coefficients d positions row = map (coefficient d row) positions

-- ---- sums over the variables
-- the sum of the products, number by number
abbrev pub products : List ℤ → List ℤ → ℤ
products [] xs = pos 0
products (z ∷ zs) [] = pos 0
products (z ∷ zs) (x ∷ xs) = z *ℤ x +ℤ products zs xs

-- of numerator times value
abbrev pub sum_over : List Position → List ℤ → List ℤ → ℤ
sum_over positions row xs = products (map (numerator row) positions) xs

-- ---- a pivot
-- column k is that of variable c alone
abbrev pub IsColumnOf : List Position → ℕ → ℕ → Type 0
IsColumnOf positions c k = (v : ℕ) → slice_index_or positions v InBasis ≡ InColumn k → v ≡ c

-- `nonbasic` has the variable of each column: it is the inverse of the positions
pub record AreNonbasic (positions : List Position) (nonbasic : List ℕ) : Type 0 where
  pub there : (k : ℕ) → k < length nonbasic → slice_index_or positions (slice_index_or nonbasic k 0) InBasis ≡ InColumn k
  pub all : (v k : ℕ) → slice_index_or positions v InBasis ≡ InColumn k → (k < length nonbasic) × (slice_index_or nonbasic k 0 ≡ v)
