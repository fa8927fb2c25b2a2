use Rattle.std.proofs.Common.{sym, ap, ◌∙◌}
use Rattle.gomory_cuts.specs.Multipliers.{filling}
use Rattle.gomory_cuts.proofs.Steps.{no_filling}
use Rattle.gomory_cuts.proofs.filling.fillings.Goals as goal

pub returns-in-None : goal.returns-in-None
returns-in-None c =
    sym (
    c.loop-column.invariant
    ∙ no_filling c.args.first c.args.tableau.now c.loop-column.column c.args.coefficients.now c.loop-column.multipliers c.index-coefficients-column.result c.loop-column-test.true c.index-coefficients-column.is
    (ap (λ s. filling s c.index-coefficients-column.result) (sym c.status-status.ensures) ∙ sym c.filling.ensures ∙ c.in-None.is)
    )
