use Rattle.std.proofs.Common.{ap, ◌∙◌, None}
use Rattle.tableau.specs.SparseSteps.{entering_by_entries}
use Rattle.tableau.proofs.Summing.{entering_is}
use Rattle.tableau.proofs.entering.entering.Goals as goal

pub returns-clause-value : goal.returns-clause-value
returns-clause-value c =
    c.least_ratio.ensures.value ∙ ap (entering_by_entries c.args.direction None c.args.statuses.now c.args.bounds.now c.args.reduced_costs.now) c.entries.ensures
    ∙ entering_is c.args.direction c.args.statuses.now c.args.bounds.now c.args.reduced_costs.now c.args.row.now c.requires.bounds_there c.requires.costs_there
