-- Lemmas: each tableau of a run is one of its linear program.
use Rattle.std.proofs.Common.{◌≡◌, ℕ, zero, suc, arith, refl, sym, ◌∙◌, subst, Option, Some, None}
use Rattle.tableau.specs.Invariants.{IsTableauOf, EndsWithTableauOf}
use Rattle.tableau.specs.Leaving.{violation}
use Rattle.tableau.specs.Lemmas.Dual.{keeps_dual}
use Rattle.tableau.specs.Lemmas.PivotKeeps.{IsExchange, apart, keeps_bounds, keeps_canonical, keeps_objective, keeps_solutions}
use Rattle.tableau.specs.Lemmas.Pivoted.{IsPivoted, computed_value_at, pivoted_is}
use Rattle.tableau.specs.Lemmas.Places.{IsPivot, eligible_nonbasic, pivot_is}
use Rattle.tableau.specs.LinearProgram.{LinearProgram}
use Rattle.tableau.specs.Pivot.{pivoted}
use Rattle.tableau.specs.Place.{place}
use Rattle.tableau.specs.Run.{RunEnd, after_pivot, continued, run_from, step_at}
use Rattle.tableau.specs.Tableau.{Tableau, bounds_of, status_of, value_of}
use Rattle.tableau.specs.declared.bounds.Direction.{Direction}
use Rattle.tableau.specs.declared.place.Place.{Place}
use Rattle.tableau.specs.declared.place.Place.TheVariants.{Cramped, Done, NoColumn, Pivot}

one_direction : (o : Option Direction) (v w : Direction) → o ≡ Some v → o ≡ Some w → v ≡ w
one_direction o v w e f = cc

-- the place's pivot keeps it all
pub pivoted_keeps : (n : ℕ) (l : LinearProgram) (t u : Tableau) (r c : ℕ) → IsTableauOf n l t → place t ≡ Pivot r c → pivoted r c t ≡ Some u → IsTableauOf n l u
pivoted_keeps n l t u r c h e f =
    let k = pivot_is n t r c h.size e in
    let x : IsExchange n r c t = record { leaving_there = k.leaving.there; entering_there = k.there; leaving = k.leaving.basic; entering = eligible_nonbasic k.direction (status_of t c) _ k.entering.eligible } in
    let p = pivoted_is n r c t u h.size k.leaving.there k.there (apart n r c t x) f in
    let same : k.direction ≡ p.0 = one_direction (violation (bounds_of t r) (value_of t r)) k.direction p.0 k.leaving.is_violated p.1.is_violated in
    from k x (subst (λ w. IsPivoted n r c w t u) (sym same) p.1)
  where
    from : (k : IsPivot n t r c) → IsExchange n r c t → IsPivoted n r c k.direction t u → IsTableauOf n l u
    from k x p = record {
      size = p.size;
      bounds = p.bounds ∙ h.bounds;
      columns = p.columns ∙ h.columns;
      numbers = p.numbers ∙ h.numbers;
      at_bounds = keeps_bounds n r c k.direction t u p h.at_bounds;
      canonical = keeps_canonical n r c k.direction t u x p h.canonical;
      solutions = keeps_solutions n r c k.direction l t u x p h.canonical h.solutions;
      objective = keeps_objective n r c k.direction l t u x p h.canonical h.objective;
      dual = keeps_dual n r c k.direction t u k.quotient h.size x p h.canonical k.entering k.least h.dual;
      values = λ i b. computed_value_at u.nonbasic_values u.statuses u.nonbasic_values u.rows u.values i (p.size.statuses ∙ sym p.size.nonbasic_values) (p.size.rows ∙ sym p.size.nonbasic_values) p.values (omega (arith, p.size.nonbasic_values));
    }

-- ---- the run
next_end : (n : ℕ) (l : LinearProgram) (t : Tableau) (f : Tableau → RunEnd) (p : Place) → IsTableauOf n l t → place t ≡ p → ((u : Tableau) → IsTableauOf n l u → EndsWithTableauOf n l (f u)) → EndsWithTableauOf n l (continued f (step_at t p))
next_end n l t f Done h e k = record { tableau = h; place = sym e; lost = λ z. absurd (let y : ⊥ = cc in y) }
next_end n l t f (NoColumn r) h e k = record { tableau = h; place = sym e; lost = λ z. absurd (let y : ⊥ = cc in y) }
next_end n l t f Cramped h e k = record { tableau = h; place = sym e; lost = λ z. refl }
next_end n l t f (Pivot r c) h e k = after_end (pivoted r c t) refl
  where
    after_end : (o : Option Tableau) → pivoted r c t ≡ o → EndsWithTableauOf n l (continued f (after_pivot t o))
    after_end None g = record { tableau = tt; place = tt; lost = λ z. refl }
    after_end (Some u) g = k u (pivoted_keeps n l t u r c h e g)

pub run_keeps : (n : ℕ) (l : LinearProgram) (k : ℕ) (t : Tableau) → IsTableauOf n l t → EndsWithTableauOf n l (run_from k t)
run_keeps n l zero t h = record { tableau = h; place = refl; lost = λ z. absurd (let y : ⊥ = cc in y) }
run_keeps n l (suc k) t h = next_end n l t (run_from k) (place t) h refl (λ u h. run_keeps n l k u h)

-- a tableau is lost only where a pivot is cramped
lost_next : (t : Tableau) (f : Tableau → RunEnd) (p : Place) → ((u : Tableau) → (f u).tableau ≡ None → (f u).place ≡ Cramped) → (continued f (step_at t p)).tableau ≡ None → (continued f (step_at t p)).place ≡ Cramped
lost_next t f Done h e = absurd (let z : ⊥ = cc in z)
lost_next t f (NoColumn r) h e = absurd (let z : ⊥ = cc in z)
lost_next t f Cramped h e = refl
lost_next t f (Pivot r c) h e = at (pivoted r c t) e
  where
    at : (o : Option Tableau) → (continued f (after_pivot t o)).tableau ≡ None → (continued f (after_pivot t o)).place ≡ Cramped
    at None e = refl
    at (Some u) e = h u e

pub lost_cramped : (k : ℕ) (t : Tableau) → (run_from k t).tableau ≡ None → (run_from k t).place ≡ Cramped
lost_cramped zero t e = absurd (let z : ⊥ = cc in z)
lost_cramped (suc k) t e = lost_next t (run_from k) (place t) (λ u e. lost_cramped k u e) e
