use Rattle.std.proofs.Common.{◌≡◌, ◌+◌, ◌-◌, ap, arith, rules, sym, subst, ◌∙◌}
use Rattle.tableau.specs.Run.{run_from}
use Rattle.integer_tableau.proofs.Requests.{as_many}
use Rattle.integer_tableau.proofs.StoredRuns.{goes_on, kept_end, same_end, unmoved_at, unmoved_view}
use Rattle.integer_tableau.specs.Kept.{AreKept}
use Rattle.integer_tableau.specs.StoredRun.{IsStep, dictionary_at, view_with}
use Rattle.integer_tableau.specs.declared.basic_solution.BasicSolution.{BasicSolution}
use Rattle.integer_tableau.specs.declared.stored_run.Step.TheVariants.{Ended, Moved}
use Rattle.integer_tableau.proofs.stored_run.run_stored.Goals as goal

pub make_step-requires-clause-kept : goal.make_step-requires-clause-kept
make_step-requires-clause-kept c =
    let a = c.args in
    let costs = c.requires.kept.0 in
    (costs, subst (λ ps. AreKept ps a.weight costs c.loop-made.store.kept) (sym c.deref.ensures.value) (c.loop-made.invariant.kept costs c.requires.kept.1))

pub returns-in-Ended-clause-end : goal.returns-in-Ended-clause-end
returns-in-Ended-clause-end c =
    let a = c.args in
    let l = c.loop-made in
    let ps = a.program_rows.now.items.value.items in
    let old = l.store.kept in
    let new = c.make_step.new.store.kept in
    let m = c.make_step.new.solution in
    let s = subst (λ ps. IsStep ps a.weight old l.at l.solution new m (Ended c.in-Ended.place)) c.deref.ensures.value c.in-Ended.ensures.step in
    kept_end a.numbers.now ps a.weight old new a.cap l.made _ c.in-Ended.place l.at l.solution m c.loop-made-test.true l.invariant.there l.invariant.at l.invariant.same l.invariant.counted s.0 s.1

pub returns-in-Ended-clause-kept : goal.returns-in-Ended-clause-kept
returns-in-Ended-clause-kept c = λ costs h.
    let a = c.args in
    subst (λ ps. AreKept ps a.weight costs c.loop-made.store.kept → AreKept ps a.weight costs c.make_step.new.store.kept) c.deref.ensures.value (c.make_step.ensures.kept costs) (c.loop-made.invariant.kept costs h)

pub run_alone-requires-clause-kept : goal.run_alone-requires-clause-kept
run_alone-requires-clause-kept c =
    let a = c.args in
    let costs = c.requires.kept.0 in (
      costs,
      subst (λ ps. AreKept ps a.weight costs c.loop-made.store.kept → AreKept ps a.weight costs c.make_step.new.store.kept) c.deref.ensures.value (c.make_step.ensures.kept costs)
          (c.loop-made.invariant.kept costs c.requires.kept.1),
    )

pub run_alone-requires-clause-there : goal.run_alone-requires-clause-there
run_alone-requires-clause-there c = omega (arith, c.loop-made.invariant.there, as_many c.make_step.new.store.kept c.loop-made.store.kept c.in-Closed.ensures.step.dictionaries)

pub run_alone-requires-clause-at : goal.run_alone-requires-clause-at
run_alone-requires-clause-at c =
    let a = c.args in
    let l = c.loop-made in
    unmoved_at a.program_rows.now.items.value.items a.weight l.store.kept c.make_step.new.store.kept l.at l.solution c.make_step.new.solution c.in-Closed.ensures.step l.invariant.there l.invariant.at

pub returns-in-Closed-clause-end : goal.returns-in-Closed-clause-end
returns-in-Closed-clause-end c =
    let a = c.args in
    let l = c.loop-made in
    let ps = a.program_rows.now.items.value.items in
    let old = l.store.kept in
    let new = c.make_step.new.store.kept in
    let m = c.make_step.new.solution in
    let v = unmoved_view a.numbers.now ps old new l.at l.solution m c.in-Closed.ensures.step l.invariant.there in
    same_end a.numbers.now ps a.weight new c.run_alone.result _ _ _ _ (let h : m.pivots + (a.cap - l.made) ≡ a.cap = omega (arith, c.loop-made-test.true, l.invariant.counted, ap (λ (n : BasicSolution). n.pivots) c.in-Closed.ensures.step.solution) in h)
    (ap (run_from (a.cap - l.made)) v ∙ l.invariant.same) (c.run_alone.ensures.end new)

pub returns-in-Closed-clause-kept : goal.returns-in-Closed-clause-kept
returns-in-Closed-clause-kept c = λ costs h.
    let a = c.args in
    subst (λ ps. AreKept ps a.weight costs c.loop-made.store.kept → AreKept ps a.weight costs c.make_step.new.store.kept) c.deref.ensures.value (c.make_step.ensures.kept costs) (c.loop-made.invariant.kept costs h)

pub returns-in-GivenUp-clause-kept : goal.returns-in-GivenUp-clause-kept
returns-in-GivenUp-clause-kept c = λ costs h.
    let a = c.args in
    subst (λ ps. AreKept ps a.weight costs c.loop-made.store.kept → AreKept ps a.weight costs c.make_step.new.store.kept) c.deref.ensures.value (c.make_step.ensures.kept costs) (c.loop-made.invariant.kept costs h)

pub loop-made-preserved : goal.loop-made-preserved
loop-made-preserved c =
    let a = c.args in
    let l = c.loop-made in
    let ps = a.program_rows.now.items.value.items in
    let old = l.store.kept in
    let new = c.make_step.new.store.kept in
    let m = c.make_step.new.solution in
    let h = subst (λ ps. IsStep ps a.weight old l.at l.solution new m (Moved c.in-Moved.next)) c.deref.ensures.value c.in-Moved.ensures.step in
    record {
      kept = λ costs h. subst (λ ps. AreKept ps a.weight costs old → AreKept ps a.weight costs new) c.deref.ensures.value (c.make_step.ensures.kept costs) (l.invariant.kept costs h);
      there = h.there;
      at = h.at;
      same = goes_on a.cap l.made (view_with a.numbers.now ps (dictionary_at old l.at) l.solution) (view_with a.numbers.now ps (dictionary_at new c.in-Moved.next) m) _ c.loop-made-test.true (h.step a.numbers.now)
          l.invariant.same;
      counted = h.counted ∙ ap (λ n. n + 1) l.invariant.counted;
    }

pub run_alone-requires-2-clause-kept : goal.run_alone-requires-2-clause-kept
run_alone-requires-2-clause-kept c = (c.requires.kept.0, c.loop-made.invariant.kept c.requires.kept.0 c.requires.kept.1)

pub returns-clause-end : goal.returns-clause-end
returns-clause-end c =
    let a = c.args in
    let l = c.loop-made in
    let none : 0 ≡ a.cap - l.made = omega (arith, c.loop-made-test.false) in
    same_end a.numbers.now a.program_rows.now.items.value.items a.weight l.store.kept c.run_alone-2.result _ _ _ _ (let h : l.solution.pivots + 0 ≡ a.cap = search rules in h)
    (ap (λ k. run_from k (view_with a.numbers.now a.program_rows.now.items.value.items (dictionary_at l.store.kept l.at) l.solution)) none ∙ l.invariant.same) (c.run_alone-2.ensures.end l.store.kept)
