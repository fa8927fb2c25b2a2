use Rattle.std.proofs.Common.{ap, ◌∙◌}
use Rattle.tableau.specs.Sparse.{nonzeros}
use Rattle.tableau.proofs.sparse_row.SparseRow.entries.Goals as goal

pub returns : goal.returns
returns c = c.as_slice.ensures ∙ c.self.invariant.entries ∙ ap (nonzeros 0) c.self.view_is
