use Rattle.std.proofs.Common.{ap, sym, ◌∙◌}
use Rattle.tableau.specs.SparseSteps.{begins_with}
use Rattle.tableau.proofs.Pushing.{summed, when_true}
use Rattle.tableau.proofs.entries.Entries.push_met.Goals as goal

pub returns-then-branch-clause-entries : goal.returns-then-branch-clause-entries
returns-then-branch-clause-entries c = λ next.
    summed c.args.factor c.args.entry.now c.index-source-0.result next c.args.source.now _ _
    (ap (begins_with c.args.source.now) (sym c.variable.ensures) ∙ sym c.begins_with.ensures ∙ c.if-not-begins_with.false) c.index-source-0.is
    (when_true _ _ c.in_ok-push_sum.field-0 c.in_ok-push_sum.ensures.entries c.if-branch.true)
