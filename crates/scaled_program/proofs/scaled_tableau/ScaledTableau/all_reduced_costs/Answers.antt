use Rattle.std.proofs.Common.{◌∙◌, ap}
use Rattle.std.proofs.lemmas.Result.{IfOk-weaker}
use Rattle.tableau.specs.Tableau.{Tableau}
use Rattle.integer_tableau.specs.Scales.{scale_at, unscaled_row}
use Rattle.scaled_program.proofs.scaled_tableau.ScaledTableau.all_reduced_costs.Goals as goal

pub returns : goal.returns
returns c =
    let n = c.self.inside in
    IfOk-weaker c.unscaled_row.result _ _ (λ v e.
    e ∙ (λ i. unscaled_row (scale_at (c.columns-columns.ensures i) n.scales.rows.items.value.items) n.scales.costs 0 ((c.deref.ensures.value ∙ c.in_ok-scaled.ensures) i))
    ∙ ap (λ (w : Tableau). w.reduced_costs) c.self.view_is) c.unscaled_row.ensures
