use Rattle.std.proofs.Common.{drop}
use Rattle.mps_reader.proofs.RowsMade.{HasRows}
use Rattle.mps_reader.specs.Tables.{table}
use Rattle.mps_reader.proofs.ranged_rows.ranged_parts.Given as goal

abbrev pub invariant-loop-index : goal.invariant-loop-index
invariant-loop-index g l =
    HasRows l.sides l.ranges (table l.rows.entries) l.fn.terms l.parts.rows.items l.parts.objective l.index (drop l.index l.left)
