-- Lemmas: where a run of pivots ends.
use Rattle.std.proofs.Common.{◌≡◌, ℕ, ap, sym, subst, ◌∙◌, ◌⊎◌, inl, inr, refl}
use Rattle.integer_tableau.specs.Run.{IsEndOf}
use Rattle.tableau.specs.Place.{place}
use Rattle.tableau.specs.Run.{EndsAs, RunEnd, continued, run_from}
use Rattle.tableau.specs.Tableau.{Tableau}
use Rattle.tableau.specs.declared.place.Place.{Place}

pub ends : (f : Tableau → RunEnd) (m : RunEnd ⊎ Tableau) (p : Place) (u : Tableau) → IsEndOf m p u → EndsAs (continued f m) p u
ends f (inl e) p u h = h
ends f (inr t) p u h = absurd h

pub at_cap : (n : ℕ) (t s : Tableau) (p : Place) (e : RunEnd) → n ≡ 0 → run_from n t ≡ e → p ≡ place t → EndsAs e p t
at_cap n t s p e z h q = subst (λ e. EndsAs e p t) (sym (ap (λ n. run_from n t) z) ∙ h) record { place = q; pivots = refl; tableau = refl }
