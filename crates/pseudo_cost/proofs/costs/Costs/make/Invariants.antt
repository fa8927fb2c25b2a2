use Rattle.std.proofs.Common.{◌≡◌, replicate}
use Rattle.pseudo_cost.specs.ColumnGains.{no_column_gains}
use Rattle.pseudo_cost.proofs.costs.Costs.make.Given as goal

abbrev pub invariant-loop : goal.invariant-loop
invariant-loop l = l.items.items ≡ replicate l.counter no_column_gains
