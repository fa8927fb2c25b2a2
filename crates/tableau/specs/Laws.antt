-- What tableaus promise.
use Rattle.std.specs.Prelude.{◌≡◌, ◌≤◌, ℕ, List, length, All, Some, IsSome}
use Rattle.problem_box.specs.declared.span.Span.{Span}
use Rattle.problem.specs.Rows.{Rows}
use Rattle.problem.specs.Problem.{Problem}
use Rattle.problem.specs.Limited.{IsLimited, IsModestSpan}
use Rattle.problem.specs.Limits.{most_cuts}
use Rattle.tableau.specs.declared.place.Place.TheVariants.{Pivot}
use Rattle.tableau.specs.Tableau.{Tableau, HasSize}
use Rattle.tableau.specs.Place.{place, IsPivotThere}
use Rattle.tableau.specs.Run.{run_from}
use Rattle.tableau.specs.LinearProgram.{LinearProgram, variables, relaxation}
use Rattle.tableau.specs.Start.{started}
use Rattle.tableau.specs.Invariants.{IsTableauOf, EndsWithTableauOf}
use Rattle.tableau.specs.WellFormed.{IsCutRow, IsWellFormed}

-- for a problem within the limits, few cuts and a box of the limits the start is never cramped
abbrev pub StartsAreThere : Type 0
StartsAreThere =
    (p : Problem) (cuts : Rows) (spans : List Span)
    → IsLimited p → All IsCutRow cuts → length cuts ≤ most_cuts → length spans ≡ length p.spans → All IsModestSpan spans
    → IsSome (started (relaxation p cuts spans))

-- the start is a tableau of its linear program
abbrev pub StartsAreTableaus : Type 0
StartsAreTableaus = (p : LinearProgram) (t : Tableau) → IsWellFormed p → started p ≡ Some t → IsTableauOf (variables p) p t

-- the linear program of a problem is well formed
abbrev pub RelaxationsAreWellFormed : Type 0
RelaxationsAreWellFormed = (p : Problem) (cuts : Rows) (spans : List Span) → IsWellFormed (relaxation p cuts spans)

-- where a pivot is asked for, its coefficient isn't 0, and its leaving variable is outside its bounds
abbrev pub PivotsAreThere : Type 0
PivotsAreThere = (n : ℕ) (t : Tableau) (r c : ℕ) → HasSize n t → place t ≡ Pivot r c → IsPivotThere t r c

-- a run that ends with a tableau ends with one of the linear program, at the place that it asks for
abbrev pub RunsKeepTableaus : Type 0
RunsKeepTableaus = (n : ℕ) (p : LinearProgram) (cap : ℕ) (t : Tableau) → IsTableauOf n p t → EndsWithTableauOf n p (run_from cap t)
