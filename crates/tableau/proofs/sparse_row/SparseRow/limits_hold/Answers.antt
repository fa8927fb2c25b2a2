use Rattle.std.proofs.Common.{subst}
use Rattle.std.specs.Prelude.{All}
use Rattle.fraction.specs.Fits.{FitsFraction}
use Rattle.tableau.proofs.View.{row_fits}
use Rattle.tableau.proofs.sparse_row.SparseRow.limits_hold.Goals as goal

pub returns : goal.returns
returns c = subst (All FitsFraction) c.self.view_is (row_fits c.self.inside.width c.self.inside.entries c.self.invariant)
