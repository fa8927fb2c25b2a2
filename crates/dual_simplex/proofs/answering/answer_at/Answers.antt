use Rattle.std.proofs.Common.{◌≡◌, sym, ◌∙◌, take}
use Rattle.tableau.specs.declared.place.Place.TheVariants.{Done, Cramped as CrampedRatio}
use Rattle.dual_simplex.proofs.Ending.{cost_multipliers, row_there, row_multipliers}
use Rattle.dual_simplex.proofs.answering.answer_at.Goals as goal

pub optimal_at-requires-clause-multipliers : goal.optimal_at-requires-clause-multipliers
optimal_at-requires-clause-multipliers c =
    cost_multipliers c.args.problem.now (take c.args.cuts c.args.book.now.cuts) c.args.area.now c.args.tableau.now (c.requires.end.tableau (λ e. let f : Done ≡ CrampedRatio = sym c.in-Done.is ∙ e in cc))

pub infeasible_at-requires-clause-row : goal.infeasible_at-requires-clause-row
infeasible_at-requires-clause-row c =
    row_there c.args.problem.now (take c.args.cuts c.args.book.now.cuts) c.args.area.now c.args.tableau.now c.in-NoColumn.row c.args.place c.requires.end c.in-NoColumn.is

pub infeasible_at-requires-clause-multipliers : goal.infeasible_at-requires-clause-multipliers
infeasible_at-requires-clause-multipliers c =
    row_multipliers c.args.problem.now (take c.args.cuts c.args.book.now.cuts) c.args.area.now c.args.tableau.now c.in-NoColumn.row c.args.place c.requires.end c.in-NoColumn.is
