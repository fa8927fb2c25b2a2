use Rattle.std.proofs.Common.{◌≡◌, ◌++◌, drop, map, take}
use Rattle.integer_tableau.specs.Start.{is_negative}
use Rattle.integer_tableau.proofs.start_lists.put_sides.Given as goal

abbrev pub invariant-loop-column : goal.invariant-loop-column
invariant-loop-column l = l.at_upper ≡ map is_negative (take l.column l.costs) ++ drop l.column l.initial.at_upper
