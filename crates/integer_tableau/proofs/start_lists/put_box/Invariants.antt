use Rattle.std.proofs.Common.{◌≡◌, ◌++◌, drop, map, take}
use Rattle.integer_tableau.specs.IntegerProgram.{column_bounds}
use Rattle.integer_tableau.proofs.start_lists.put_box.Given as goal

abbrev pub invariant-loop-column : goal.invariant-loop-column
invariant-loop-column l = l.bounds ≡ map column_bounds (take l.column l.area) ++ drop l.column l.initial.bounds
