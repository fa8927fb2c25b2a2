use Rattle.std.proofs.Common.{◌≡◌, ◌++◌, map, replicate}
use Rattle.tableau.specs.Start.{start_status}
use Rattle.tableau.specs.declared.status.BasisStatus.TheVariants.{Basic}
use Rattle.tableau.proofs.start.start_statuses.Given as goal

abbrev pub invariant-loop : goal.invariant-loop
invariant-loop l = l.statuses.items ≡ map start_status l.costs ++ replicate l.counter Basic
