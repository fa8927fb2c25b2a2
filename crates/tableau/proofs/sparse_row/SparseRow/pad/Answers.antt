use Rattle.std.proofs.Common.{arith, ap, ◌∙◌, length}
use Rattle.tableau.specs.Start.{padded}
use Rattle.tableau.specs.Lemmas.Started.{length-coefficients}
use Rattle.tableau.proofs.View.{padded_is, padded_sparse}
use Rattle.tableau.proofs.sparse_row.SparseRow.pad.Goals as goal

pub overflow_add-self : goal.overflow_add-self
overflow_add-self c = omega (arith, c.requires, ap length c.self.view_is, length-coefficients 0 c.self.inside.width c.self.inside.entries)

pub invariant_of-self : goal.invariant_of-self
invariant_of-self c = padded_sparse c.self.inside.width c.args.zeros c.self.inside.entries c.self.invariant

pub returns : goal.returns
returns c = padded_is c.self.inside.width c.args.zeros c.self.inside.entries c.self.invariant ∙ ap (padded c.args.zeros) c.self.view_is
