use Rattle.std.proofs.Common.{◌∙◌, ap}
use Rattle.tableau.specs.Tableau.{Tableau}
use Rattle.integer_tableau.proofs.integer_tableau.IntegerTableau.columns.Goals as goal

pub returns : goal.returns
returns c = c.len.ensures ∙ c.self.inside.rows.ok.0 ∙ ap (λ (t : Tableau). t.columns) c.self.view_is
