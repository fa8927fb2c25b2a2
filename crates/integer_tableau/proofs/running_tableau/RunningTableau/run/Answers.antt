use Rattle.std.proofs.Common.{arith, ◌≡◌, ◌+◌, ◌-◌, ◌∙◌, suc, sym, subst}
use Rattle.tableau.specs.Place.{PlaceIsWithin}
use Rattle.tableau.specs.Run.{EndsAs, run_from}
use Rattle.integer_tableau.specs.Lemmas.Runs.{at_cap}
use Rattle.integer_tableau.specs.Running.{running_view}
use Rattle.integer_tableau.proofs.FromCode.{statuses_as_many}
use Rattle.integer_tableau.proofs.RunningSteps.{step_counted, step_ends, step_goes_on}
use Rattle.integer_tableau.proofs.running_tableau.RunningTableau.run.Goals as goal

pub returns-in-Some-Some-clause-value : goal.returns-in-Some-Some-clause-value
returns-in-Some-Some-clause-value c =
    let e : c.args.cap - c.loop-made.made ≡ suc (c.args.cap - (c.loop-made.made + 1)) = omega arith in
    subst (EndsAs (run_from c.args.cap (running_view c.args.self)) c.in-Some-Some.place) (sym c.into_tableau-tableau.ensures)
    (rw (← c.loop-made.invariant.same, e) (step_ends _ _ _ _ _ c.in-Some-Some.ensures.value c.in-Some-Some.field-0-is))

pub returns-in-Some-Some-clause-within : goal.returns-in-Some-Some-clause-within
returns-in-Some-Some-clause-within c =
    let within = rw c.in-Some-Some.field-0-is at c.in-Some-Some.ensures.within in
    subst (λ n. PlaceIsWithin n c.in-Some-Some.place)
    (statuses_as_many _ _ _ _ _ _ c.into_tableau-tableau.result c.in-Some-Some.ensures.running.compact (sym c.into_tableau-tableau.ensures)) within

pub loop-made-preserved : goal.loop-made-preserved
loop-made-preserved c =
    let e : c.args.cap - c.loop-made.made ≡ suc (c.args.cap - (c.loop-made.made + 1)) = omega arith in
    record {
      running = c.in-Some-None.ensures.running;
      fixed = c.step.ensures.same ∙ c.loop-made.invariant.fixed;
      sums = c.in-Some-None.ensures.sums;
      same = rw (← c.loop-made.invariant.same, e) (sym (step_goes_on (run_from (c.args.cap - (c.loop-made.made + 1))) _ _ _ c.in-Some-None.ensures.value c.in-Some-None.field-0-is));
      counted = omega (arith, step_counted _ _ _ _ c.in-Some-None.ensures.counted c.in-Some-None.field-0-is, c.loop-made.invariant.counted);
    }

pub returns-in-Some-clause-value : goal.returns-in-Some-clause-value
returns-in-Some-clause-value c =
    subst (EndsAs (run_from c.args.cap (running_view c.args.self)) c.in-Some.place) (sym c.into_tableau-tableau-in-Some.ensures)
    (at_cap _ (running_view c.loop-made.running) (running_view c.loop-made.running) c.in-Some.place _ (omega arith) c.loop-made.invariant.same c.in-Some.ensures.value)

pub returns-in-Some-clause-within : goal.returns-in-Some-clause-within
returns-in-Some-clause-within c =
    subst (λ n. PlaceIsWithin n c.in-Some.place)
    (statuses_as_many _ _ _ _ _ _ c.into_tableau-tableau-in-Some.result c.loop-made.invariant.running.compact (sym c.into_tableau-tableau-in-Some.ensures)) c.in-Some.ensures.within
