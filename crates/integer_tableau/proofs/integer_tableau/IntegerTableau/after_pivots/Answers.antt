use Rattle.std.proofs.Common.{arith, ◌≡◌, ◌+◌, ◌-◌, suc, ap, sym, ◌∙◌}
use Rattle.tableau.specs.Run.{run_from}
use Rattle.integer_tableau.specs.Running.{running_view}
use Rattle.integer_tableau.proofs.RunningSteps.{step_counted, step_goes_on}
use Rattle.integer_tableau.proofs.integer_tableau.IntegerTableau.after_pivots.Goals as goal

pub loop-i-preserved : goal.loop-i-preserved
loop-i-preserved c = record {
  running = c.in-Some-None.ensures.running;
  sums = c.in-Some-None.ensures.sums;
  same = λ cap.
      let e : suc (c.args.count - (c.loop-i._i + 1) + cap) ≡ c.args.count - c.loop-i._i + cap = omega arith in
      sym (step_goes_on (run_from (c.args.count - (c.loop-i._i + 1) + cap)) _ _ _ c.in-Some-None.ensures.value c.in-Some-None.field-0-is)
      ∙ ap (λ k. run_from k (running_view c.loop-i.running)) e ∙ c.loop-i.invariant.same cap;
  counted = omega (arith, step_counted _ _ _ _ c.in-Some-None.ensures.counted c.in-Some-None.field-0-is, c.loop-i.invariant.counted);
}

pub returns-clause-goes_on : goal.returns-clause-goes_on
returns-clause-goes_on c = λ cap.
    ap (run_from cap) c.into_tableau.ensures
    ∙ ap (λ k. run_from k (running_view c.loop-i.running)) (let e : cap ≡ c.args.count - c.loop-i._i + cap = omega arith in e) ∙ c.loop-i.invariant.same cap
