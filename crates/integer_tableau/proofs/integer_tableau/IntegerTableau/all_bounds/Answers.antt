use Rattle.std.proofs.Common.{◌∙◌, ap, map}
use Rattle.std.proofs.lemmas.Result.{IfOk-weaker}
use Rattle.integer_tableau.specs.IntegerTableau.{fraction_bounds}
use Rattle.tableau.specs.Tableau.{Tableau}
use Rattle.integer_tableau.proofs.integer_tableau.IntegerTableau.all_bounds.Goals as goal

pub returns : goal.returns
returns c = IfOk-weaker c.all_bounds.result _ _ (λ v h. h ∙ ap (map fraction_bounds) c.deref.ensures.value ∙ ap (λ (t : Tableau). t.bounds) c.self.view_is) c.all_bounds.ensures
