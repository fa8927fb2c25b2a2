-- A pivot on whole numbers.
use Rattle.std.specs.Prelude.{◌≡◌, ◌≢◌, ℕ, ◌<◌, map, ℤ, pos, nat_abs, ◌+ℤ◌, ◌-ℤ◌, ◌*ℤ◌, List, [], length, slice_index_or, slice_set, Bool, true, false, Some}
use Rattle.fraction.specs.Rational.{frac, whole}
use Rattle.tableau.specs.declared.bounds.Direction.{Direction}
use Rattle.tableau.specs.declared.bounds.Direction.TheVariants.{Rise, Fall}
use Rattle.tableau.specs.Leaving.{unbounded, violation, violated_bound}
use Rattle.tableau.specs.Pivot.{pivoted}
use Rattle.integer_tableau.specs.Numbers.{number_at}
use Rattle.integer_tableau.specs.Substitution.{IsSolvedRow, IsSubstitutedRow, IsSubstitutedIfFull}
use Rattle.integer_tableau.specs.IntegerTableau.{IntegerTableau, fraction_bounds, tableau_of}
use Rattle.integer_tableau.specs.Combined.{expanded, IsCompact}
use Rattle.integer_tableau.specs.declared.integer_bounds.IntegerBounds.{IntegerBounds}
use Rattle.integer_tableau.specs.declared.position.Position.{Position}
use Rattle.integer_tableau.specs.declared.position.Position.TheVariants.{InBasis, InColumn}

-- whether a leaving variable goes to its upper bound
abbrev pub is_upper : Direction → Bool
is_upper Rise = false
is_upper Fall = true

-- a pivot of r and c in column k can be made: c has that column, and r is basic, has this row and this value over d, a coefficient of c, and
-- violates the bound b
pub record IsPivotOf (bounds : List IntegerBounds) (positions : List Position) (row : List ℤ) (value : ℤ) (d : ℕ) (r c k : ℕ) (w : Direction) (b : ℤ) : Type 0 where
  pub entering : slice_index_or positions c InBasis ≡ InColumn k
  pub leaving : slice_index_or positions r InBasis ≡ InBasis
  pub coefficient : 0 < nat_abs (number_at row k)
  pub direction : violation (slice_index_or (map fraction_bounds bounds) r unbounded) (frac value d) ≡ Some w
  pub bound : violated_bound w (slice_index_or (map fraction_bounds bounds) r unbounded) ≡ whole b

-- ---- values
-- a value, where the row has the width: the entering variable's value comes in place of its bound x, and the denominator e in place of d
abbrev pub IsSubstitutedValue : ℕ → ℕ → ℤ → ℤ → ℤ → ℤ → List ℤ → ℤ → ℤ → Type 0
IsSubstitutedValue width k x e entering d row v new =
    length row ≡ width → new *ℤ d ≡ (v -ℤ number_at row k *ℤ x) *ℤ e +ℤ entering *ℤ number_at row k

-- the values of the columns after variable c, of column k, left its bound x and came to this value over e
pub record AreSubstitutedValues (c k : ℕ) (d e x entering : ℤ) (width : ℕ) (rows : List (List ℤ)) (values new : List ℤ) : Type 0 where
  pub put : c < length values → number_at new c ≡ entering
  pub others : (v : ℕ) → v < length values → v ≢ c → IsSubstitutedValue width k x e entering d (slice_index_or rows v []) (number_at values v) (number_at new v)
  pub as_many : length new ≡ length values

-- ---- rows
-- `solved` is the leaving row, solved for the variable c of column k, and its row if it is a column; it is substituted in the other columns' rows
-- and in the reduced costs
pub record IsEliminated (c k d e : ℕ) (leaving_row solved : List ℤ) (rows new : List (List ℤ)) (reduced_costs new_costs : List ℤ) : Type 0 where
  pub is_solved : IsSolvedRow k d leaving_row solved
  pub put : c < length rows → slice_index_or new c [] ≡ solved
  pub others : (v : ℕ) → v < length rows → v ≢ c → IsSubstitutedIfFull (pos d) (pos e) k solved (slice_index_or rows v []) (slice_index_or new v [])
  pub costs : IsSubstitutedRow (pos d) (pos e) k solved reduced_costs new_costs
  pub as_many : length new ≡ length rows

-- ---- all of it
-- u is what a pivot makes of t, and holds what t held
pub record IsPivoted (program_rows : List (List ℤ)) (weight reach r c : ℕ) (t u : IntegerTableau) : Type 0 where
  pub columns : length u.rows ≡ length t.rows
  pub pivoted : (numbers : List ℕ) → pivoted r c (tableau_of (length t.rows) numbers (expanded program_rows t)) ≡ Some (tableau_of (length t.rows) numbers (expanded program_rows u))
  pub compact : IsCompact program_rows weight reach u

-- r left the basis for the column of c, to some bound, and c came into it: so went the positions from ss to ts, and the nonbasic values from xs to ys
pub record IsExchange (r c : ℕ) (ss ts : List Position) (xs ys : List ℤ) : Type 0 where
  pub column : ℕ
  pub bound : ℤ
  pub leaving : slice_index_or ss r InBasis ≡ InBasis
  pub entering : slice_index_or ss c InBasis ≡ InColumn column
  pub positions : ts ≡ slice_set (slice_set ss r (InColumn column)) c InBasis
  pub values : ys ≡ slice_set (slice_set xs r bound) c (pos 0)
