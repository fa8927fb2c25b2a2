use Rattle.std.proofs.Common.{◌≡◌, take, map}
use Rattle.tableau.specs.Start.{start_status}
use Rattle.tableau.proofs.start.column_statuses.Given as goal

abbrev pub invariant-loop-cost : goal.invariant-loop-cost
invariant-loop-cost l = l.statuses.items ≡ map start_status (take l.cost-index l.costs)
