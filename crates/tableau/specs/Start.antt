-- The tableau at the start: the rows' values are the basis, and each column is at the bound that its cost asks for.
use Rattle.std.specs.Prelude.{ℕ, ◌+◌, pos, int_lt, List, [], ◌∷◌, ◌++◌, length, map, replicate, Option, if◌then◌else◌}
use Rattle.std.specs.Option.{option_map, unwrap_or}
use Rattle.fraction.specs.Rational.{ℚ}
use Rattle.tableau.specs.declared.bounds.Bounds.{Bounds}
use Rattle.tableau.specs.declared.status.BasisStatus.{BasisStatus}
use Rattle.tableau.specs.declared.status.BasisStatus.TheVariants.{Basic, AtLower, AtUpper}
use Rattle.tableau.specs.Elimination.{zero_ℚ}
use Rattle.tableau.specs.Tableau.{Tableau}
use Rattle.tableau.specs.Pivot.{computed_values}
use Rattle.tableau.specs.LinearProgram.{LinearProgram}

-- a column is at its lower bound where its cost is at least 0, else at its upper one
abbrev pub start_status : ℚ → BasisStatus
start_status cost = if int_lt cost.num (pos 0) then AtUpper else AtLower

-- the bound at which a column starts: the one that its cost asks for
abbrev pub start_value : ℚ → Bounds → ℚ
start_value cost b = if int_lt cost.num (pos 0) then unwrap_or b.upper zero_ℚ else unwrap_or b.lower zero_ℚ

-- the bounds at which the columns start
abbrev pub start_values : List ℚ → List Bounds → List ℚ
start_values [] bs = []
start_values (d ∷ ds) [] = []
start_values (d ∷ ds) (b ∷ bs) = start_value d b ∷ start_values ds bs

-- with m zeros behind it, for the row variables
abbrev pub padded : ℕ → List ℚ → List ℚ
padded m row = row ++ replicate m zero_ℚ

-- before the values are computed
abbrev pub slack_basis : LinearProgram → Tableau
slack_basis p =
    let n = length p.costs in
    let m = length p.rows in
    record {
      columns = n;
      numbers = p.numbers;
      bounds = p.bounds;
      statuses = map start_status p.costs ++ replicate m Basic;
      nonbasic_values = padded m (start_values p.costs p.bounds);
      rows = replicate n [] ++ map (padded m) p.rows;
      reduced_costs = padded m p.costs;
      values = replicate (n + m) zero_ℚ;
      pivots = 0;
    }

-- none where a value is cramped
abbrev pub started : LinearProgram → Option Tableau
started p =
    let t = slack_basis p in
    option_map (λ values. record t { values = values }) (computed_values t.nonbasic_values t.statuses t.nonbasic_values t.rows)
