-- The multipliers of rows that a tableau names, by the rows' numbers.
use Rattle.std.specs.Prelude.{ℕ, pos, negsuc, List, [], ◌∷◌, map, drop, take, slice_set, if◌then◌else◌}
use Rattle.std.specs.Ordering.{int_eq}
use Rattle.fraction.specs.Rational.{ℚ, whole, neg_ℚ}
use Rattle.problem.specs.Linear.{Multipliers}
use Rattle.tableau.specs.declared.bounds.Direction.{Direction}
use Rattle.tableau.specs.declared.bounds.Direction.TheVariants.{Rise, Fall}
use Rattle.tableau.specs.Elimination.{Coefficients}
use Rattle.tableau.specs.Leaving.{is_below}
use Rattle.tableau.specs.Tableau.{Tableau, bounds_of, row_of, value_of}

-- a multiplier that is 0 is left out
abbrev pub with_multiplier : ℕ → ℚ → Multipliers → Multipliers
with_multiplier i m others = if int_eq m.num (pos 0) then others else (i, m) ∷ others

-- the numbers of rows with their multipliers
abbrev pub numbered : List ℕ → List ℚ → Multipliers
numbered [] ms = []
numbered (i ∷ is) [] = []
numbered (i ∷ is) (m ∷ ms) = with_multiplier i m (numbered is ms)

-- ---- where the tableau is done
-- the columns' values
abbrev pub point_of : Tableau → List ℚ
point_of t = take t.columns t.values

-- for each row the reduced cost of its variable, which is 0 in the basis
abbrev pub mult_of_cost : Tableau → Multipliers
mult_of_cost t = numbered t.numbers (drop t.columns t.reduced_costs)

-- ---- where no column is eligible for variable r, which is outside its bounds
-- the direction back to its bounds
abbrev pub direction_of : Tableau → ℕ → Direction
direction_of t r = if is_below (value_of t r) (bounds_of t r).lower then Rise else Fall

-- for each variable, where r is to rise, minus its coefficient in the row of r, which is 0 in the basis, and 1 for r; where r is to fall, the negatives
abbrev pub row_multipliers : Direction → ℕ → Coefficients → List ℚ
row_multipliers Rise r row = slice_set (map neg_ℚ row) r (whole (pos 1))
row_multipliers Fall r row = slice_set row r (whole (negsuc 0))

-- for each row that of its variable
abbrev pub mult_of_row : Tableau → ℕ → Multipliers
mult_of_row t r = numbered t.numbers (drop t.columns (row_multipliers (direction_of t r) r (row_of t r)))
