use Rattle.std.proofs.Common.{◌≡◌, ◌++◌, drop}
use Rattle.integer_tableau.specs.Start.{columns_from}
use Rattle.integer_tableau.proofs.start_lists.put_columns.Given as goal

abbrev pub invariant-loop-column : goal.invariant-loop-column
invariant-loop-column l = l.positions ≡ columns_from 0 l.column ++ drop l.column l.initial.positions
