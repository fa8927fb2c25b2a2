use Rattle.std.proofs.Common.{arith, refl, ◌∙◌, ap, length}
use Rattle.integer_tableau.proofs.ToFractions.{bounds_many, columns_within, costs_many, nonbasic_values_many, rows_many, statuses_many, values_many}
use Rattle.integer_tableau.proofs.integer_tableau.IntegerTableau.fractions.Goals as goal

pub of_parts-requires-clause-columns_there : goal.of_parts-requires-clause-columns_there
of_parts-requires-clause-columns_there c =
    omega (arith, c.len.ensures, c.self.inside.rows.ok, columns_within _ _ _ _ _ _ c.args.self.now c.self.invariant.0 c.self.view_is refl, statuses_many _ _ _ _ _ _ c.args.self.now c.self.invariant.0 c.self.view_is refl, ap length c.in_ok-statuses.ensures)

pub of_parts-requires-clause-bounds_there : goal.of_parts-requires-clause-bounds_there
of_parts-requires-clause-bounds_there c =
    omega (arith, ap length c.in_ok-bounds.ensures, bounds_many _ _ _ _ _ _ c.args.self.now c.self.invariant.0 c.self.view_is refl, statuses_many _ _ _ _ _ _ c.args.self.now c.self.invariant.0 c.self.view_is refl, ap length c.in_ok-statuses.ensures)

pub of_parts-requires-clause-nonbasic_values_there : goal.of_parts-requires-clause-nonbasic_values_there
of_parts-requires-clause-nonbasic_values_there c =
    omega (arith, ap length c.in_ok-nonbasic_values.ensures, nonbasic_values_many _ _ _ _ _ _ c.args.self.now c.self.invariant.0 c.self.view_is refl, statuses_many _ _ _ _ _ _ c.args.self.now c.self.invariant.0 c.self.view_is refl, ap length c.in_ok-statuses.ensures)

pub of_parts-requires-clause-rows_there : goal.of_parts-requires-clause-rows_there
of_parts-requires-clause-rows_there c = omega (arith, ap length c.in_ok-rows.ensures, rows_many _ _ _ _ _ _ c.args.self.now c.self.invariant.0 c.self.view_is refl, statuses_many _ _ _ _ _ _ c.args.self.now c.self.invariant.0 c.self.view_is refl, ap length c.in_ok-statuses.ensures)

pub of_parts-requires-clause-costs_there : goal.of_parts-requires-clause-costs_there
of_parts-requires-clause-costs_there c =
    let same = ap length (c.deref-2.ensures.value ∙ c.in_ok-reduced_costs.ensures) in
    omega (arith, same, costs_many _ _ _ _ _ _ c.args.self.now c.self.invariant.0 c.self.view_is refl, statuses_many _ _ _ _ _ _ c.args.self.now c.self.invariant.0 c.self.view_is refl, ap length c.in_ok-statuses.ensures)

pub of_parts-requires-clause-values_there : goal.of_parts-requires-clause-values_there
of_parts-requires-clause-values_there c = omega (arith, ap length c.in_ok-values.ensures, values_many _ _ _ _ _ _ c.args.self.now c.self.invariant.0 c.self.view_is refl, statuses_many _ _ _ _ _ _ c.args.self.now c.self.invariant.0 c.self.view_is refl, ap length c.in_ok-statuses.ensures)
