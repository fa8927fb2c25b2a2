-- Dictionaries whose numbers stand one behind another in lists that they share.
use Rattle.std.specs.Prelude.{◌≡◌, ◌≢◌, ◌<◌, ◌+◌, ◌*◌, ◌+ℤ◌, ◌*ℤ◌, ℕ, zero, suc, ℤ, pos, nat_eq, List, [], ◌∷◌, length, slice_index_or, slice_range, Option, None, Some}
use Rattle.std.specs.List.{position}
use Rattle.integer_tableau.specs.Numbers.{number_at}
use Rattle.integer_tableau.specs.Substitution.{IsSubstitutedRow}
use Rattle.integer_tableau.specs.declared.position.Position.{Position}
use Rattle.integer_tableau.specs.declared.position.Position.TheVariants.{InBasis, InColumn}

-- f at n places from k on
abbrev pub places_from : {A : Type 0} → ℕ → ℕ → (ℕ → A) → List A
places_from k zero f = []
places_from k (suc n) f = f k ∷ places_from (suc k) n f

-- ---- positions
-- the position of the variable at this place among those of the columns, of a basic one where there is none
abbrev pub in_column : Option ℕ → Position
in_column None = InBasis
in_column (Some k) = InColumn k

-- the positions of n variables, by the variable of each column
abbrev pub positions_by : ℕ → List ℕ → List Position
positions_by n nonbasic = places_from 0 n (λ v. in_column (position (nat_eq v) nonbasic))

-- ---- rows
-- one of rows of this width that stand one behind another
abbrev pub flat_row : ℕ → List ℤ → ℕ → List ℤ
flat_row width numerators i = slice_range numerators (i * width) (i * width + width)

-- the row at this place; no numbers where no place is told
abbrev pub flat_row_if_there : ℕ → List ℤ → Option ℕ → List ℤ
flat_row_if_there width numerators None = []
flat_row_if_there width numerators (Some i) = flat_row width numerators i

-- the row of a column, by the columns whose rows stand there; none of another one
abbrev pub row_by : ℕ → List ℕ → List ℤ → ℕ → List ℤ
row_by width columns numerators v = flat_row_if_there width numerators (position (nat_eq v) columns)

-- of all columns
abbrev pub rows_by : ℕ → List ℕ → List ℤ → List (List ℤ)
rows_by width columns numerators = places_from 0 width (row_by width columns numerators)

-- what the basic columns from place i on say of column k, each times its coefficient, by their rows
abbrev pub basic_sum : ℕ → List ℤ → List ℤ → ℕ → ℕ → List ℕ → ℤ
basic_sum width coefficients numerators k i [] = pos 0
basic_sum width coefficients numerators k i (v ∷ columns) = number_at coefficients v *ℤ number_at (flat_row width numerators i) k +ℤ basic_sum width coefficients numerators k (suc i) columns

-- ---- what a pivot makes
-- the row of column v: that of the entering variable c is the solved one, in another the variable is substituted; `rows` has what they were
pub record IsMadeRow (d e : ℤ) (k c : ℕ) (solved : List ℤ) (rows : ℕ → List ℤ) (v : ℕ) (row : List ℤ) : Type 0 where
  pub width : length row ≡ length solved
  pub put : v ≡ c → row ≡ solved
  pub other : v ≢ c → IsSubstitutedRow d e k solved (rows v) row

-- rows of these columns, one behind another
pub record AreMadeRows (d e : ℤ) (k c width : ℕ) (solved : List ℤ) (rows : ℕ → List ℤ) (columns : List ℕ) (made : List ℤ) : Type 0 where
  pub count : length made ≡ length columns * width
  pub put : (p : ℕ) → p < length columns → slice_index_or columns p 0 ≡ c → flat_row width made p ≡ solved
  pub others : (p : ℕ) → p < length columns → slice_index_or columns p 0 ≢ c → IsSubstitutedRow d e k solved (rows (slice_index_or columns p 0)) (flat_row width made p)
