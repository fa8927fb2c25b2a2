use Rattle.std.proofs.Common.{ap, ◌∙◌, sym, drop}
use Rattle.tableau.specs.Elimination.{entry}
use Rattle.tableau.specs.Sparse.{first_coefficient}
use Rattle.tableau.proofs.View.{sparse_rise, coefficient_is, drop_position}
use Rattle.tableau.proofs.sparse_row.SparseRow.coefficient.Goals as goal

pub position-position-requires : goal.position-position-requires
position-position-requires c = sparse_rise c.self.inside.width c.self.inside.entries c.self.invariant

pub returns : goal.returns
returns c =
    let v = c.args.variable in
    c.coefficient_in.ensures
    ∙ ap (λ es. first_coefficient v (drop c.position-position.result es)) c.as_slice.ensures
    ∙ ap (first_coefficient v) (drop_position v c.self.inside.entries c.position-position.result c.position-position.ensures)
    ∙ sym (coefficient_is c.self.inside.width v c.self.inside.entries c.self.invariant)
    ∙ ap (λ row. entry row v) c.self.view_is
