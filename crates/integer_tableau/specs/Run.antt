-- How a run on whole numbers ends.
use Rattle.std.specs.Prelude.{◌≡◌, ℕ, ◌⊎◌, Some}
use mathlib.Core.Logic.{inl, inr}
use Rattle.tableau.specs.declared.place.Place.{Place}
use Rattle.tableau.specs.Tableau.{Tableau}
use Rattle.tableau.specs.LinearProgram.{LinearProgram}
use Rattle.tableau.specs.Start.{started}
use Rattle.tableau.specs.Run.{RunEnd, EndsAs, run_from}

-- a step of the run ended it so
abbrev pub IsEndOf : RunEnd ⊎ Tableau → Place → Tableau → Type 0
IsEndOf (inl e) p t = EndsAs e p t
IsEndOf (inr u) p t = ⊥

-- the run of a linear program from the start with at most so many pivots ended at this place with this tableau
pub record IsRunOver (p : LinearProgram) (cap : ℕ) (place : Place) (t : Tableau) : Type 0 where
  pub start : Tableau
  pub starts : started p ≡ Some start
  pub ends : EndsAs (run_from cap start) place t
