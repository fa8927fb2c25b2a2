use Rattle.std.proofs.Common.{ap, sym, ◌∙◌, length}
use Rattle.tableau.specs.Lemmas.Started.{length-coefficients}
use Rattle.tableau.proofs.sparse_row.SparseRow.width.Goals as goal

pub returns : goal.returns
returns c = sym (length-coefficients 0 c.self.inside.width c.self.inside.entries) ∙ ap length c.self.view_is
