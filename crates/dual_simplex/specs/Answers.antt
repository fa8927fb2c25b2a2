-- What the dual simplex answers of a problem and some cuts over a box.
use Rattle.std.specs.Prelude.{◌≡◌, ℕ, ◌+◌, ◌*◌, List, [], map, Option, Some, None, if◌then◌else◌, IfSome, IsSomeAnd}
use Rattle.std.specs.Option.{option_map}
use Rattle.problem_box.specs.declared.span.Span.{Span}
use Rattle.problem.specs.Linear.{Multipliers}
use Rattle.problem.specs.Problem.{Problem}
use Rattle.problem.specs.Directions.{aim}
use Rattle.derivation_book.specs.declared.cut.Cut.{Cut}
use Rattle.derivation_book.specs.Price.{price}
use Rattle.tableau.specs.declared.place.Place.{Place}
use Rattle.tableau.specs.declared.place.Place.TheVariants.{Done, NoColumn, Pivot, Cramped as CrampedRatio}
use Rattle.tableau.specs.LinearProgram.{LinearProgram, variables, relaxation}
use Rattle.tableau.specs.Tableau.{Tableau}
use Rattle.tableau.specs.Start.{started}
use Rattle.tableau.specs.Run.{RunEnd, run_from}
use Rattle.tableau.specs.Multipliers.{point_of, mult_of_cost, mult_of_row}
use Rattle.dual_simplex.specs.declared.answer.Answer.{Answer}
use Rattle.dual_simplex.specs.declared.answer.Answer.TheVariants.{Infeasible, Optimal, Cramped, Stalled}
use Rattle.dual_simplex.specs.Relaxation.{RationalPoint}
use Rattle.dual_simplex.specs.PointSums.{sums_fit}

-- the linear program of a problem's rows and these cuts over a box
abbrev pub linear_program : Problem → List Cut → List Span → LinearProgram
linear_program p cuts box = relaxation p (map (λ (c : Cut). c.row) cuts) box

-- ---- the run
-- how many pivots a run makes at most
abbrev pub pivot_limit : LinearProgram → ℕ
pivot_limit lp = 20 * variables lp + 100

-- from a start; where the start is cramped, the run ends before it
abbrev pub run_of_start : LinearProgram → Option Tableau → RunEnd
run_of_start lp None = record { place = CrampedRatio; pivots = 0; tableau = None }
run_of_start lp (Some t) = run_from (pivot_limit lp) t

-- the run on a linear program from its first tableau, up to the limit of pivots
abbrev pub run : LinearProgram → RunEnd
run lp = run_of_start lp (started lp)

-- what is handed out of a run whose start is there: a tableau that tells the run's pivots, also after a cramped one
abbrev pub HasPivots : LinearProgram → Option Tableau → Type 0
HasPivots lp left = IfSome (started lp) (λ s. IsSomeAnd left (λ t. t.pivots ≡ (run lp).pivots))

-- ---- its end
-- by the multipliers of a row that no column can help; none where their price is cramped
abbrev pub infeasible_answer : Problem → List Cut → List Span → Multipliers → Option Answer
infeasible_answer p cuts box mult = option_map (λ v. Infeasible mult) (price p cuts box [] mult)

-- at the point of a tableau that is done, with the multipliers of its costs; none where their price or a sum at the point is cramped
abbrev pub optimal_answer : Problem → List Cut → List Span → RationalPoint → Multipliers → Option Answer
optimal_answer p cuts box x mult = if sums_fit p cuts x then option_map (λ v. Optimal x mult v) (price p cuts box (aim p) mult) else None

-- a sum that does not fit makes the whole run a cramped one
abbrev pub answer_or_cramped : ℕ → Option Answer → Answer
answer_or_cramped pivots None = Cramped pivots
answer_or_cramped pivots (Some a) = a

-- by the last place and the tableau, which is lost where a pivot was cramped
abbrev pub answer_at : Problem → List Cut → List Span → ℕ → Option Tableau → Place → Answer
answer_at p cuts box pivots None place = Cramped pivots
answer_at p cuts box pivots (Some t) Done = answer_or_cramped pivots (optimal_answer p cuts box (point_of t) (mult_of_cost t))
answer_at p cuts box pivots (Some t) (NoColumn r) = answer_or_cramped pivots (infeasible_answer p cuts box (mult_of_row t r))
answer_at p cuts box pivots (Some t) CrampedRatio = Cramped pivots
answer_at p cuts box pivots (Some t) (Pivot r c) = Stalled

-- the answer that a run's last tableau gives
abbrev pub answer_of_run : Problem → List Cut → List Span → RunEnd → Answer
answer_of_run p cuts box e = answer_at p cuts box e.pivots e.tableau e.place

-- of the problem's rows and these cuts over the box
abbrev pub answer : Problem → List Cut → List Span → Answer
answer p cuts box = answer_of_run p cuts box (run (linear_program p cuts box))
