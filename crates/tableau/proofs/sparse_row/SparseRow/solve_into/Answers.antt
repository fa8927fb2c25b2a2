use Rattle.std.proofs.Common.{ap, sym, ◌∙◌, Some}
use Rattle.tableau.proofs.Pushing.{when_true}
use Rattle.tableau.proofs.Solving.{solved_some}
use Rattle.tableau.proofs.sparse_row.SparseRow.solve_into.Goals as goal

pub set-requires : goal.set-requires
set-requires c = (
    solved_some c.self.inside.width c.args.row c.args.column c.args.self.now c.self.inside.entries c.push_solved.new.spare c.coefficient-pivot.result c.self.view_is c.coefficient-pivot.ensures
    (sym c.is_zero.ensures ∙ c.if-is_zero.false) (when_true _ _ c.in_ok-push_solved.field-0 c.in_ok-push_solved.ensures.entries c.if-not-branch.false) c.in_ok-push_solved.ensures.fractions).1

pub returns : goal.returns
returns c = (
    solved_some c.self.inside.width c.args.row c.args.column c.args.self.now c.self.inside.entries c.push_solved.new.spare c.coefficient-pivot.result c.self.view_is c.coefficient-pivot.ensures
    (sym c.is_zero.ensures ∙ c.if-is_zero.false) (when_true _ _ c.in_ok-push_solved.field-0 c.in_ok-push_solved.ensures.entries c.if-not-branch.false) c.in_ok-push_solved.ensures.fractions).0
    ∙ ap Some (sym c.in_ok-set.ensures)
