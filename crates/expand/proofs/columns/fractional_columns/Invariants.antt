use Rattle.std.proofs.Common.{◌≡◌, ◌++◌, drop}
use Rattle.expand.specs.Columns.{fractional_from, fractional_columns}
use Rattle.expand.proofs.columns.fractional_columns.Given as goal

abbrev pub invariant-loop-column : goal.invariant-loop-column
invariant-loop-column l = l.columns.items ++ fractional_from l.column (drop l.column l.point) ≡ fractional_columns l.point
