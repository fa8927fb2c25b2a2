use Rattle.std.proofs.Common.{◌≡◌, ◌++◌, drop, take}
use Rattle.integer_tableau.specs.Start.{start_numbers}
use Rattle.integer_tableau.proofs.start_lists.put_column_numbers.Given as goal

abbrev pub invariant-loop-column : goal.invariant-loop-column
invariant-loop-column l = l.numbers ≡ start_numbers (take l.column l.costs) l.bounds ++ drop l.column l.initial.numbers
