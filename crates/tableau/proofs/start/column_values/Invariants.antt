use Rattle.std.proofs.Common.{◌≡◌, ◌++◌}
use Rattle.std.proofs.Common.{drop, length}
use Rattle.tableau.specs.Start.{start_values}
use Rattle.tableau.proofs.start.column_values.Given as goal

abbrev pub invariant-loop-column : goal.invariant-loop-column
invariant-loop-column l = record {
  so_far : start_values l.costs l.bounds ≡ l.values.items ++ start_values (drop l.column l.costs) (drop l.column l.bounds);
  count : length l.values.items ≡ l.column;
}
