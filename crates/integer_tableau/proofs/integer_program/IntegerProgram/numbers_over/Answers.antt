use Rattle.std.proofs.lemmas.Result.{IfOk-weaker}
use Rattle.tableau.specs.LinearProgram.{over}
use Rattle.tableau.specs.Run.{run_from}
use Rattle.integer_tableau.proofs.StoredStarts.{run_over_box}
use Rattle.integer_tableau.specs.StoredRun.{IsStoredRun}
use Rattle.integer_tableau.proofs.integer_program.IntegerProgram.numbers_over.Goals as goal

pub final_numbers-requires-clause-ended : goal.final_numbers-requires-clause-ended
final_numbers-requires-clause-ended c =
    let p = c.self.inside in
    let h : IsStoredRun c.deref-3.result.now p.rows.items.value.items p.weight c.end_over.new.store.kept (over c.args.self.now c.args.area.now) c.args.cap c.in-Some-Ok.end =
    run_over_box p.rows.items.value.items p.weight p.costs p.bounds.items c.deref-2.result.now p.numbers.items c.deref.result.now c.deref-3.result.now c.args.self.now c.args.area.now
    c.end_over.new.store.kept c.args.cap c.in-Some-Ok.end c.self.view_is c.deref-2.ensures.value c.deref.ensures.value c.deref-3.ensures.value
    (let h = rw c.in-Some-Ok.is at c.in_ok-end.ensures.run in rw c.in-Some-Ok.field-0-is at h) in
    (c.args.cap, run_from c.args.cap h.start, h.ends)

pub returns : goal.returns
returns c =
    let p = c.self.inside in
    let h : IsStoredRun c.deref-3.result.now p.rows.items.value.items p.weight c.end_over.new.store.kept (over c.args.self.now c.args.area.now) c.args.cap c.in-Some-Ok.end =
    run_over_box p.rows.items.value.items p.weight p.costs p.bounds.items c.deref-2.result.now p.numbers.items c.deref.result.now c.deref-3.result.now c.args.self.now c.args.area.now
    c.end_over.new.store.kept c.args.cap c.in-Some-Ok.end c.self.view_is c.deref-2.ensures.value c.deref.ensures.value c.deref-3.ensures.value
    (let h = rw c.in-Some-Ok.is at c.in_ok-end.ensures.run in rw c.in-Some-Ok.field-0-is at h) in
    let ends = c.in_ok-numbers.ensures.numbers c.args.cap h.start h.ends in
    record {
      value = IfOk-weaker c.in_ok-numbers.numbers _ _ (λ n g. record { start = h.start; starts = h.starts; ends = g.ends }) ends;
      exact = IfOk-weaker c.in_ok-numbers.numbers _ _ (λ n g. g.exact) ends;
      capped = IfOk-weaker c.in_ok-numbers.numbers _ _ (λ n g. g.capped) ends;
      given_up = c.in_ok-numbers.ensures.given_up c.args.cap (run_from c.args.cap h.start) h.ends;
      same = c.self.view_is;
    }
