-- Steps of a run: where it ends, and what is left of it.
use Rattle.std.proofs.Common.{◌≡◌, ℕ, Option, None, Some, ap, sym, subst, ◌⊎◌, inl, inr}
use Rattle.std.specs.Prelude.{MatchOption}
use Rattle.tableau.specs.Run.{EndsAs, RunEnd, StepsTo, continued}
use Rattle.tableau.specs.Tableau.{Tableau}
use Rattle.tableau.specs.declared.place.Place.{Place}

pub step_ends : (f : Tableau → RunEnd) (m : RunEnd ⊎ Tableau) (o : Option Place) (p : Place) (t : Tableau) → StepsTo m o t → o ≡ Some p → EndsAs (continued f m) p t
step_ends f m o p t h e = at m (subst (λ o. StepsTo m o t) e h)
  where
    at : (m : RunEnd ⊎ Tableau) → StepsTo m (Some p) t → EndsAs (continued f m) p t
    at (inl e) h = h
    at (inr u) h = absurd h

pub step_goes_on : (f : Tableau → RunEnd) (m : RunEnd ⊎ Tableau) (o : Option Place) (t : Tableau) → StepsTo m o t → o ≡ None → continued f m ≡ f t
step_goes_on f m o t h e = at m (subst (λ o. StepsTo m o t) e h)
  where
    at : (m : RunEnd ⊎ Tableau) → StepsTo m None t → continued f m ≡ f t
    at (inl e) h = absurd h
    at (inr u) h = ap f (sym h)

pub step_counted : (o : Option Place) (p q r : ℕ) → MatchOption o (p ≡ q) (λ x. p ≡ r) → o ≡ None → p ≡ q
step_counted None p q r h e = h
step_counted (Some x) p q r h e = cc
