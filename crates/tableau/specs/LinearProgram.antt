-- The linear program of a problem's rows and some cuts over a box.
use Rattle.std.specs.Prelude.{ℕ, zero, suc, ◌+◌, ◌*◌, List, [], ◌∷◌, ◌++◌, length, map, drop, Some, None}
use Rattle.fraction.specs.Rational.{ℚ, whole}
use Rattle.problem_box.specs.declared.span.Span.{Span}
use Rattle.problem.specs.declared.row.Sense.{Sense}
use Rattle.problem.specs.declared.row.Sense.TheVariants.{G, L, E}
use Rattle.problem.specs.declared.row.Row.{Row}
use Rattle.problem.specs.Linear.{Terms, coefficient}
use Rattle.problem.specs.Rows.{Rows}
use Rattle.problem.specs.Problem.{Problem}
use Rattle.problem.specs.Directions.{aim}
use Rattle.tableau.specs.declared.bounds.Bounds.{Bounds}
use Rattle.tableau.specs.Elimination.{Coefficients}

-- minimise the costs, where each row's value is a variable of its own: the variables are first the columns, then the values of the rows
pub record LinearProgram : Type 0 where
  -- the coefficients of each row over the columns
  pub rows : List Coefficients
  -- the objective's coefficients
  pub costs : List ℚ
  -- of the columns, then of the rows' values
  pub bounds : List Bounds
  -- the numbers by which multipliers name the rows
  pub numbers : List ℕ

-- how many variables there are
abbrev pub variables : LinearProgram → ℕ
variables p = length p.costs + length p.rows

-- the coefficients of terms in k columns from j on
abbrev pub coefficients_from : ℕ → ℕ → Terms → Coefficients
coefficients_from j zero ts = []
coefficients_from j (suc k) ts = coefficient ts j ∷ coefficients_from (j + 1) k ts

-- the two bounds of a span
abbrev pub span_bounds : Span → Bounds
span_bounds s = record { lower = Some (whole s.lo); upper = Some (whole s.hi) }

-- the bounds of a row's value
abbrev pub sense_bounds : Sense → ℚ → Bounds
sense_bounds G rhs = record { lower = Some rhs; upper = None }
sense_bounds L rhs = record { lower = None; upper = Some rhs }
sense_bounds E rhs = record { lower = Some rhs; upper = Some rhs }

-- the bounds of a row's variable
abbrev pub row_bounds : Row → Bounds
row_bounds r = sense_bounds r.sense r.rhs

-- of an objective and rows under these numbers, over a box
abbrev pub program_of : Terms → Rows → List ℕ → List Span → LinearProgram
program_of objective rows numbers spans = record {
  rows = map (λ (r : Row). coefficients_from 0 (length spans) r.terms) rows;
  costs = coefficients_from 0 (length spans) objective;
  bounds = map span_bounds spans ++ map row_bounds rows;
  numbers = numbers;
}

-- ---- the numbers of rows
-- k numbers from i on
abbrev pub numbers_from : ℕ → ℕ → List ℕ
numbers_from i zero = []
numbers_from i (suc k) = i ∷ numbers_from (i + 1) k

-- of a problem's rows, and behind two bound rows a column those of k cuts
abbrev pub row_numbers : Problem → ℕ → List ℕ
row_numbers p k = numbers_from 0 (length p.rows) ++ numbers_from (length p.rows + 2 * length p.spans) k

-- of a problem's aim, which is the objective that a search minimises, and its rows and those of its first cuts, over a box
abbrev pub relaxation : Problem → Rows → List Span → LinearProgram
relaxation p cuts spans = program_of (aim p) (p.rows ++ cuts) (row_numbers p (length cuts)) spans

-- the same program over another box
abbrev pub over : LinearProgram → List Span → LinearProgram
over p spans = record p { bounds = map span_bounds spans ++ drop (length p.costs) p.bounds }

-- with one row more, under this number
abbrev pub with_row : LinearProgram → Row → ℕ → LinearProgram
with_row p r number = record {
  rows = p.rows ++ coefficients_from 0 (length p.costs) r.terms ∷ [];
  costs = p.costs;
  bounds = p.bounds ++ row_bounds r ∷ [];
  numbers = p.numbers ++ number ∷ [];
}

-- with the row of one cut more, whose number is behind the rows so far and two bound rows a column
abbrev pub with_cut : LinearProgram → Row → LinearProgram
with_cut p r = with_row p r (length p.rows + 2 * length p.costs)
