use Rattle.std.proofs.Common.{◌∙◌, ap, map}
use Rattle.std.proofs.lemmas.Result.{IfOk-weaker}
use Rattle.fraction.specs.Rational.{whole}
use Rattle.tableau.specs.Tableau.{Tableau}
use Rattle.integer_tableau.proofs.integer_tableau.IntegerTableau.all_nonbasic_values.Goals as goal

pub returns : goal.returns
returns c = IfOk-weaker c.whole_numbers.result _ _ (λ v h. h ∙ ap (map whole) c.deref.ensures.value ∙ ap (λ (t : Tableau). t.nonbasic_values) c.self.view_is) c.whole_numbers.ensures
