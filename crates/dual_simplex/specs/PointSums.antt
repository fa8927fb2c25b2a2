-- The sums at a rational point, as they are computed.
use Rattle.std.specs.Prelude.{List, length, Bool, ◌&&◌, is_some, Option}
use Rattle.std.specs.List.{list_all}
use Rattle.fraction.specs.Rational.{ℚ}
use Rattle.fraction.specs.Checked.{dot_checked}
use Rattle.problem.specs.declared.row.Row.{Row}
use Rattle.problem.specs.Linear.{Terms}
use Rattle.problem.specs.Problem.{Problem}
use Rattle.problem.specs.Directions.{aim}
use Rattle.derivation_book.specs.declared.cut.Cut.{Cut}
use Rattle.tableau.specs.LinearProgram.{coefficients_from}
use Rattle.dual_simplex.specs.Relaxation.{RationalPoint}

-- from 0, coefficient times number, over the columns in their order; none where one of these operations is cramped
abbrev pub checked_sum : Terms → RationalPoint → Option ℚ
checked_sum ts x = dot_checked (coefficients_from 0 (length x) ts) x

-- the sums of the aim, which is the objective that a search minimises, of each row and of each of these cuts are there
abbrev pub sums_fit : Problem → List Cut → RationalPoint → Bool
sums_fit p cuts x =
    is_some (checked_sum (aim p) x) && list_all (λ (r : Row). is_some (checked_sum r.terms x)) p.rows
    && list_all (λ (c : Cut). is_some (checked_sum c.row.terms x)) cuts
