use Rattle.std.proofs.Common.{arith, ap, ◌∙◌, length, length-drop}
use Rattle.tableau.proofs.Pushing.{merge_goes_on, merge_stops, when_some, when_none}
use Rattle.tableau.proofs.entries.Entries.push_merged.Goals as goal

pub returns-in-None-clause-entries : goal.returns-in-None-clause-entries
returns-in-None-clause-entries c =
    merge_stops c.args.width c.args.factor c.args.variable c.args.row.now c.args.source.now c.rest.result.now c.loop-entry.entry-index c.loop-entry.next c.entry-item.result _ _ _ (omega arith) c.entry-item.is
    (λ e. c.if-index-variable.false (c.index.ensures ∙ e)) c.rest.ensures (λ rest. when_none _ _ c.in_ok-taken.field-0 (c.in_ok-taken.ensures.entries rest) c.in-None.is) c.loop-entry.invariant.entries

pub loop-entry-preserved : goal.loop-entry-preserved
loop-entry-preserved c = record {
  entries = merge_goes_on c.args.width c.args.factor c.args.variable c.args.row.now c.args.source.now c.rest.result.now c.loop-entry.entry-index c.loop-entry.next c.in-Some.taken c.entry-item.result _ _ _ (omega arith) c.entry-item.is
      (λ e. c.if-index-variable.false (c.index.ensures ∙ e)) c.rest.ensures (λ rest. when_some _ _ c.in_ok-taken.field-0 c.in-Some.taken (c.in_ok-taken.ensures.entries rest) c.in-Some.is) c.loop-entry.invariant.entries;
  there = omega (arith, when_some _ _ c.in_ok-taken.field-0 c.in-Some.taken c.in_ok-taken.ensures.there c.in-Some.is, ap length c.rest.ensures, length-drop c.loop-entry.next c.args.source.now, c.loop-entry.invariant.there);
  fractions = λ h. c.in_ok-taken.ensures.fractions (c.loop-entry.invariant.fractions h);
}
