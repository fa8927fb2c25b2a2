use Rattle.std.proofs.Common.{arith, ap, ◌∙◌, length}
use Rattle.scaled_program.proofs.ToFractions.{bounds_many, costs_many, nonbasic_values_many, rows_many, statuses_many, values_many}
use Rattle.scaled_program.proofs.scaled_tableau.ScaledTableau.fractions.Goals as goal

pub of_parts-requires-clause-columns_there : goal.of_parts-requires-clause-columns_there
of_parts-requires-clause-columns_there c = omega (arith, c.columns.ensures, c.sizes_hold.ensures.columns, ap length c.in_ok-statuses.ensures)

pub of_parts-requires-clause-bounds_there : goal.of_parts-requires-clause-bounds_there
of_parts-requires-clause-bounds_there c =
    let n = c.self.inside in
    let own = rw c.in-Some.is at c.in_ok-bounds.ensures in
    omega (arith, ap length own, bounds_many n.scales.greatest n.scales.rows.items.value.items n.scales.costs n.tableau c.args.self.now c.self.invariant.1 c.self.view_is, ap length c.in_ok-statuses.ensures, statuses_many n.scales.greatest n.scales.rows.items.value.items n.scales.costs n.tableau c.args.self.now c.self.invariant.1 c.self.view_is)

pub of_parts-requires-clause-nonbasic_values_there : goal.of_parts-requires-clause-nonbasic_values_there
of_parts-requires-clause-nonbasic_values_there c =
    let n = c.self.inside in
    let own = rw c.in-Some-2.is at c.in_ok-nonbasic_values.ensures in
    omega (arith, ap length own, nonbasic_values_many n.scales.greatest n.scales.rows.items.value.items n.scales.costs n.tableau c.args.self.now c.self.invariant.1 c.self.view_is, ap length c.in_ok-statuses.ensures, statuses_many n.scales.greatest n.scales.rows.items.value.items n.scales.costs n.tableau c.args.self.now c.self.invariant.1 c.self.view_is)

pub of_parts-requires-clause-values_there : goal.of_parts-requires-clause-values_there
of_parts-requires-clause-values_there c =
    let n = c.self.inside in
    let own = rw c.in-Some-3.is at c.in_ok-values.ensures in
    omega (arith, ap length own, values_many n.scales.greatest n.scales.rows.items.value.items n.scales.costs n.tableau c.args.self.now c.self.invariant.1 c.self.view_is, ap length c.in_ok-statuses.ensures, statuses_many n.scales.greatest n.scales.rows.items.value.items n.scales.costs n.tableau c.args.self.now c.self.invariant.1 c.self.view_is)

pub of_parts-requires-clause-rows_there : goal.of_parts-requires-clause-rows_there
of_parts-requires-clause-rows_there c =
    let n = c.self.inside in
    omega (arith, ap length c.in_ok-rows.ensures, rows_many n.scales.greatest n.scales.rows.items.value.items n.scales.costs n.tableau c.args.self.now c.self.invariant.1 c.self.view_is, ap length c.in_ok-statuses.ensures, statuses_many n.scales.greatest n.scales.rows.items.value.items n.scales.costs n.tableau c.args.self.now c.self.invariant.1 c.self.view_is)

pub of_parts-requires-clause-costs_there : goal.of_parts-requires-clause-costs_there
of_parts-requires-clause-costs_there c =
    let n = c.self.inside in
    omega (arith, ap length (c.deref.ensures.value ∙ c.in_ok-reduced_costs.ensures), costs_many n.scales.greatest n.scales.rows.items.value.items n.scales.costs n.tableau c.args.self.now c.self.invariant.1 c.self.view_is, ap length c.in_ok-statuses.ensures, statuses_many n.scales.greatest n.scales.rows.items.value.items n.scales.costs n.tableau c.args.self.now c.self.invariant.1 c.self.view_is)
