use Rattle.std.proofs.Common.{arith, ℕ, ◌≡◌, ◌+◌, ◌-◌, suc, Option, None, Some, ap, sym, ◌⊎◌, inl, inr, subst}
use Rattle.std.specs.Prelude.{MatchOption}
use Rattle.tableau.specs.declared.place.Place.{Place}
use Rattle.tableau.specs.Tableau.{Tableau}
use Rattle.tableau.specs.Run.{RunEnd, EndsAs, StepsTo, continued, run_from}
use Rattle.tableau.proofs.tableau.Tableau.run.Goals as goal

ends : (f : Tableau → RunEnd) (m : RunEnd ⊎ Tableau) (o : Option Place) (p : Place) (t : Tableau) → StepsTo m o t → o ≡ Some p → EndsAs (continued f m) p t
ends f m o p t h e = at m (subst (λ o. StepsTo m o t) e h)
  where
    at : (m : RunEnd ⊎ Tableau) → StepsTo m (Some p) t → EndsAs (continued f m) p t
    at (inl e) h = h
    at (inr u) h = absurd h

goes_on : (f : Tableau → RunEnd) (m : RunEnd ⊎ Tableau) (o : Option Place) (t : Tableau) → StepsTo m o t → o ≡ None → continued f m ≡ f t
goes_on f m o t h e = at m (subst (λ o. StepsTo m o t) e h)
  where
    at : (m : RunEnd ⊎ Tableau) → StepsTo m None t → continued f m ≡ f t
    at (inl e) h = absurd h
    at (inr u) h = ap f (sym h)

counted : (o : Option Place) (p q r : ℕ) → MatchOption o (p ≡ q) (λ x. p ≡ r) → o ≡ None → p ≡ q
counted None p q r h e = h
counted (Some x) p q r h e = cc

pub returns-in-Some-clause-value : goal.returns-in-Some-clause-value
returns-in-Some-clause-value c =
    let e : c.args.cap - c.loop-i._i ≡ suc (c.args.cap - (c.loop-i._i + 1)) = omega arith in
    rw (← c.loop-i.invariant.rest, e) (ends _ _ _ _ _ c.in_ok-place.ensures.value c.in-Some.is)

pub loop-i-preserved : goal.loop-i-preserved
loop-i-preserved c =
    let e : c.args.cap - c.loop-i._i ≡ suc (c.args.cap - (c.loop-i._i + 1)) = omega arith in
    record {
      rest = rw (← c.loop-i.invariant.rest, e) (sym (goes_on (run_from (c.args.cap - (c.loop-i._i + 1))) _ _ _ c.in_ok-place.ensures.value c.in_default.is));
      count = omega (arith, counted _ _ _ _ c.in_ok-place.ensures.counted c.in_default.is, c.loop-i.invariant.count);
    }
