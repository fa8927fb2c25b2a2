use Rattle.std.proofs.Common.{◌≡◌, take, map}
use Rattle.tableau.specs.LinearProgram.{span_bounds}
use Rattle.tableau.proofs.program.column_bounds.Given as goal

abbrev pub invariant-loop-column : goal.invariant-loop-column
invariant-loop-column l = l.bounds.items ≡ map span_bounds (take l.column l.area)
