use Rattle.std.proofs.Common.{refl, subst, sym}
use Rattle.std.specs.Prelude.{All, List}
use Rattle.problem.specs.declared.row.Row.{Row}
use Rattle.problem.specs.Modest.{AreModest}
use Rattle.problem.specs.Lemmas.Limited.{rows_over_point, rows_below, rows_modest, modest_inside}
use Rattle.problem.proofs.program.Problem.is_feasible.Goals as goal

pub are_satisfied-requires-clause-columns : goal.are_satisfied-requires-clause-columns
are_satisfied-requires-clause-columns c =
    rows_over_point c.self.inside.root c.args.point.now c.self.inside.rows.items c.deref.result.now c.deref.ensures.value (c.if-not-holds.ensures.0 refl) (rows_below _ _ c.self.invariant.0.rows)

pub are_satisfied-requires-clause-modest_point : goal.are_satisfied-requires-clause-modest_point
are_satisfied-requires-clause-modest_point c = modest_inside c.self.inside.root c.args.point.now c.self.invariant.0.spans (c.if-not-holds.ensures.0 refl)

pub are_satisfied-requires-clause-modest : goal.are_satisfied-requires-clause-modest
are_satisfied-requires-clause-modest c =
    subst (λ (rs : List Row). All (λ (r : Row). AreModest r.terms) rs) (sym c.deref.ensures.value) (rows_modest _ _ c.self.invariant.0.few_columns c.self.invariant.0.rows)
