use Rattle.std.proofs.Common.{◌∙◌, ap}
use Rattle.std.proofs.lemmas.Option.{IfSome_then}
use Rattle.std.proofs.lemmas.Result.{IfOk-weaker}
use Rattle.tableau.specs.Tableau.{Tableau}
use Rattle.integer_tableau.specs.Scales.{all_bounds, scale_at}
use Rattle.scaled_program.proofs.scaled_tableau.ScaledTableau.all_bounds.Goals as goal

pub returns : goal.returns
returns c =
    let scales = c.self.inside.scales.rows.items.value.items in
    IfOk-weaker c.unscaled_bounds.result _ _ (λ o h. IfSome_then o h (λ v e.
    e ∙ (λ i. all_bounds (scale_at (c.columns-columns.ensures i) scales) 0 ((c.deref.ensures.value ∙ c.in_ok-scaled.ensures) i)) ∙ ap (λ (w : Tableau). w.bounds) c.self.view_is)) c.unscaled_bounds.ensures
