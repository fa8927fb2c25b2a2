-- How a run was stopped that is claimed to be cramped after so many pivots. Only contracts of the code's own parts cite what stands here.
use Rattle.std.specs.Prelude.{◌≡◌, ℕ, List}
use Rattle.problem_box.specs.declared.span.Span.{Span}
use Rattle.problem.specs.Problem.{Problem}
use Rattle.derivation_book.specs.declared.cut.Cut.{Cut}
use Rattle.tableau.specs.declared.place.Place.{Place}
use Rattle.tableau.specs.declared.place.Place.TheVariants.{Done, NoColumn, Pivot, Cramped as CrampedRatio}
use Rattle.tableau.specs.Tableau.{Tableau}
use Rattle.tableau.specs.Run.{RunEnd, EndsAs}
use Rattle.dual_simplex.specs.declared.answer.Answer.TheVariants.{Cramped}
use Rattle.dual_simplex.specs.Answers.{linear_program, run, answer}

-- It was stopped at a pivot, and what it answers isn't that it is cramped after so many; or it ended there with this tableau.
abbrev pub IsStop : Problem → List Cut → List Span → ℕ → Place → Tableau → Type 0
IsStop p cuts box claim Done t = EndsAs (run (linear_program p cuts box)) Done t
IsStop p cuts box claim (NoColumn r) t = EndsAs (run (linear_program p cuts box)) (NoColumn r) t
IsStop p cuts box claim CrampedRatio t = EndsAs (run (linear_program p cuts box)) CrampedRatio t
IsStop p cuts box claim (Pivot r c) t = answer p cuts box ≡ Cramped claim → ⊥

-- each place and tableau that a run ends with is such a stop
abbrev pub IsStoppedRun : Problem → List Cut → List Span → ℕ → RunEnd → Type 0
IsStoppedRun p cuts box claim e = (q : Place) (t : Tableau) → EndsAs e q t → IsStop p cuts box claim q t
