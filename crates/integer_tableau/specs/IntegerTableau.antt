-- A tableau on whole numbers, as the tableau of fractions that it stands for.
use Rattle.std.specs.Prelude.{ℕ, ℤ, nat_abs, List, [], ◌∷◌, Bool, true, false, map}
use Rattle.std.specs.Option.{option_map}
use Rattle.fraction.specs.Rational.{ℚ, frac, whole}
use Rattle.tableau.specs.declared.bounds.Bounds.{Bounds}
use Rattle.tableau.specs.declared.status.BasisStatus.{BasisStatus}
use Rattle.tableau.specs.declared.status.BasisStatus.TheVariants.{Basic, AtLower, AtUpper}
use Rattle.tableau.specs.Elimination.{Coefficients}
use Rattle.tableau.specs.Tableau.{Tableau}
use Rattle.integer_tableau.specs.Positions.{coefficients}
use Rattle.integer_tableau.specs.declared.integer_bounds.IntegerBounds.{IntegerBounds}
use Rattle.integer_tableau.specs.declared.position.Position.{Position}
use Rattle.integer_tableau.specs.declared.position.Position.TheVariants.{InBasis, InColumn}

-- for each variable its bounds, its position, whether it is at its upper bound, the bound at which it is (0 in the basis), its row of numerators
-- (none where it isn't basic) and the numerator of its value; the numerators of the reduced costs; the common denominator of all these; the pivots
pub record IntegerTableau : Type 0 where
  pub bounds : List IntegerBounds
  pub positions : List Position
  pub at_upper : List Bool
  pub nonbasic_values : List ℤ
  pub rows : List (List ℤ)
  pub reduced_costs : List ℤ
  pub values : List ℤ
  pub denominator : ℕ
  pub pivots : ℕ

-- ---- variable by variable
-- the same bounds as fractions
abbrev pub fraction_bounds : IntegerBounds → Bounds
fraction_bounds b = record { lower = option_map whole b.lower; upper = option_map whole b.upper }

-- the status of a variable at its upper or its lower bound
abbrev pub bound_status : Bool → BasisStatus
bound_status true = AtUpper
bound_status false = AtLower

-- the status of a variable, by its position and whether it is at its upper bound
abbrev pub status : Position → Bool → BasisStatus
status InBasis u = Basic
status (InColumn k) u = bound_status u

-- the statuses of all variables
abbrev pub statuses_of : List Position → List Bool → List BasisStatus
statuses_of [] us = []
statuses_of (s ∷ ss) [] = []
statuses_of (s ∷ ss) (u ∷ us) = status s u ∷ statuses_of ss us

-- the value of a basic variable is over the denominator; another one has that of its bound
abbrev pub value : ℕ → Position → ℤ → ℤ → ℚ
value d InBasis x v = frac v d
value d (InColumn k) x v = whole x

-- the values of all variables
abbrev pub values_of : ℕ → List Position → List ℤ → List ℤ → List ℚ
values_of d [] xs vs = []
values_of d (s ∷ ss) [] vs = []
values_of d (s ∷ ss) (x ∷ xs) [] = []
values_of d (s ∷ ss) (x ∷ xs) (v ∷ vs) = value d s x v ∷ values_of d ss xs vs

-- a basic variable has a row, another one has no coefficients
abbrev pub row_of_position : ℕ → List Position → Position → List ℤ → Coefficients
row_of_position d positions InBasis row = coefficients d positions row
row_of_position d positions (InColumn k) row = []

-- the row of each variable, by its position and its numerators
abbrev pub rows_of : (Position → List ℤ → Coefficients) → List Position → List (List ℤ) → List Coefficients
rows_of f [] rows = []
rows_of f (s ∷ ss) [] = []
rows_of f (s ∷ ss) (row ∷ rows) = f s row ∷ rows_of f ss rows

-- ---- all of it
-- the tableau of fractions, of so many columns, whose rows have these numbers
abbrev pub tableau_of : ℕ → List ℕ → IntegerTableau → Tableau
tableau_of columns numbers t = record {
  columns = columns;
  numbers = numbers;
  bounds = map fraction_bounds t.bounds;
  statuses = statuses_of t.positions t.at_upper;
  nonbasic_values = map whole t.nonbasic_values;
  rows = rows_of (row_of_position t.denominator t.positions) t.positions t.rows;
  reduced_costs = coefficients t.denominator t.positions t.reduced_costs;
  values = values_of t.denominator t.positions t.nonbasic_values t.values;
  pivots = t.pivots;
}

-- by its parts, as the code keeps them
abbrev pub of_parts : List IntegerBounds → List Position → List Bool → List ℤ → List (List ℤ) → List ℤ → List ℤ → ℤ → ℕ → IntegerTableau
of_parts bounds positions at_upper nonbasic_values rows reduced_costs values denominator pivots = record {
  bounds = bounds;
  positions = positions;
  at_upper = at_upper;
  nonbasic_values = nonbasic_values;
  rows = rows;
  reduced_costs = reduced_costs;
  values = values;
  denominator = nat_abs denominator;
  pivots = pivots;
}
