use Rattle.std.proofs.Common.{arith}
use Rattle.tableau.proofs.Pushing.{quotients_go_on, when_true}
use Rattle.tableau.proofs.entries.Entries.push_quotients.Goals as goal

pub loop-entry-preserved : goal.loop-entry-preserved
loop-entry-preserved c = record {
  entries = λ others. quotients_go_on c.args.pivot c.args.variable c.args.entries.now c.loop-entry.entry-index c.entry-item.result others _ _ _ (omega arith) c.entry-item.is
      (λ others. when_true _ _ c.in_ok-push_quotient.field-0 (c.in_ok-push_quotient.ensures.entries others) c.if-not-branch.false) (c.loop-entry.invariant.entries others);
  fractions = λ h. c.in_ok-push_quotient.ensures.fractions (c.loop-entry.invariant.fractions h);
}
