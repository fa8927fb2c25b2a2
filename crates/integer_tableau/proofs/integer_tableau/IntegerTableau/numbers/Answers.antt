use Rattle.std.proofs.Common.{◌∙◌, ap}
use Rattle.tableau.specs.Tableau.{Tableau}
use Rattle.integer_tableau.proofs.integer_tableau.IntegerTableau.numbers.Goals as goal

pub returns : goal.returns
returns c = c.deref.ensures.value ∙ ap (λ (t : Tableau). t.numbers) c.self.view_is
