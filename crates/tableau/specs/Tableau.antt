-- A tableau of a linear program: which variables are basic, and what each row says of its basic variable.
use Rattle.std.specs.Prelude.{◌≡◌, ℕ, List, [], length, slice_index_or}
use Rattle.fraction.specs.Rational.{ℚ}
use Rattle.tableau.specs.declared.bounds.Bounds.{Bounds}
use Rattle.tableau.specs.declared.status.BasisStatus.{BasisStatus}
use Rattle.tableau.specs.declared.status.BasisStatus.TheVariants.{Basic}
use Rattle.tableau.specs.Elimination.{Coefficients, zero_ℚ}
use Rattle.tableau.specs.Leaving.{unbounded}

-- the variables are first the columns, then the values of the rows; each list has one element for each variable, but `numbers` one for each row
pub record Tableau : Type 0 where
  -- how many columns there are
  pub columns : ℕ
  -- the numbers by which multipliers name the rows
  pub numbers : List ℕ
  pub bounds : List Bounds
  pub statuses : List BasisStatus
  -- the bound at which a nonbasic variable is; 0 for a basic one
  pub nonbasic_values : List ℚ
  -- of a basic variable its row, which has 0 at each basic variable; of a nonbasic one no coefficients
  pub rows : List Coefficients
  -- 0 for a basic variable
  pub reduced_costs : List ℚ
  pub values : List ℚ
  -- how many pivots led here
  pub pivots : ℕ

-- ---- what it says of one variable
-- the bounds of variable i
abbrev pub bounds_of : Tableau → ℕ → Bounds
bounds_of t i = slice_index_or t.bounds i unbounded

-- the status of variable i
abbrev pub status_of : Tableau → ℕ → BasisStatus
status_of t i = slice_index_or t.statuses i Basic

-- the bound at which variable i is, outside the basis
abbrev pub nonbasic_value_of : Tableau → ℕ → ℚ
nonbasic_value_of t i = slice_index_or t.nonbasic_values i zero_ℚ

-- the row of variable i
abbrev pub row_of : Tableau → ℕ → Coefficients
row_of t i = slice_index_or t.rows i []

-- the reduced cost of variable i
abbrev pub reduced_cost_of : Tableau → ℕ → ℚ
reduced_cost_of t i = slice_index_or t.reduced_costs i zero_ℚ

-- the value of variable i
abbrev pub value_of : Tableau → ℕ → ℚ
value_of t i = slice_index_or t.values i zero_ℚ

-- a tableau of n variables
pub record HasSize (n : ℕ) (t : Tableau) : Type 0 where
  pub bounds : length t.bounds ≡ n
  pub statuses : length t.statuses ≡ n
  pub nonbasic_values : length t.nonbasic_values ≡ n
  pub rows : length t.rows ≡ n
  pub reduced_costs : length t.reduced_costs ≡ n
  pub values : length t.values ≡ n
