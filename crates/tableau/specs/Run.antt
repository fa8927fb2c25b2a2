-- The run: pivots, each the one that the tableau asks for, up to a cap.
use Rattle.std.specs.Prelude.{◌≡◌, ℕ, zero, suc, ◌⊎◌, Option, Some, None, IfSome}
use mathlib.Core.Logic.{inl, inr}
use Rattle.tableau.specs.declared.place.Place.{Place}
use Rattle.tableau.specs.declared.place.Place.TheVariants.{Done, NoColumn, Pivot, Cramped}
use Rattle.tableau.specs.Tableau.{Tableau}
use Rattle.tableau.specs.Place.{place}
use Rattle.tableau.specs.Pivot.{pivoted}

-- how a run ends: its last place, the number of whole pivots, and the tableau, which is lost where a pivot is cramped
pub record RunEnd : Type 0 where
  pub place : Place
  pub pivots : ℕ
  pub tableau : Option Tableau

-- at this place, without a pivot more
abbrev pub ends_at : Tableau → Place → RunEnd
ends_at t p = record { place = p; pivots = t.pivots; tableau = Some t }

-- the end at a cramped pivot, or the tableau with which the run goes on
abbrev pub after_pivot : Tableau → Option Tableau → RunEnd ⊎ Tableau
after_pivot t None = inl record { place = Cramped; pivots = t.pivots; tableau = None }
after_pivot t (Some u) = inr u

-- the end of the run at this place, or the tableau after its pivot
abbrev pub step_at : Tableau → Place → RunEnd ⊎ Tableau
step_at t Done = inl (ends_at t Done)
step_at t (NoColumn r) = inl (ends_at t (NoColumn r))
step_at t Cramped = inl (ends_at t Cramped)
step_at t (Pivot r c) = after_pivot t (pivoted r c t)

-- the end, or what comes of the next tableau
abbrev pub continued : (Tableau → RunEnd) → RunEnd ⊎ Tableau → RunEnd
continued f (inl e) = e
continued f (inr t) = f t

-- the run with at most `cap` further pivots; its place is a pivot exactly where it met the cap
abbrev pub run_from : ℕ → Tableau → RunEnd
run_from zero t = ends_at t (place t)
run_from (suc cap) t = continued (run_from cap) (step_at t (place t))

-- a run that ended so gave this place and left this tableau; after a cramped pivot only the number of pivots is told
pub record EndsAs (e : RunEnd) (p : Place) (t : Tableau) : Type 0 where
  pub place : p ≡ e.place
  pub pivots : t.pivots ≡ e.pivots
  pub tableau : IfSome e.tableau (λ u. t ≡ u)

-- a step that gave a place, where the run ends there, and left this tableau
abbrev pub StepsTo : RunEnd ⊎ Tableau → Option Place → Tableau → Type 0
StepsTo (inl e) None t = ⊥
StepsTo (inl e) (Some p) t = EndsAs e p t
StepsTo (inr u) None t = t ≡ u
StepsTo (inr u) (Some p) t = ⊥
