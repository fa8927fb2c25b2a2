use Rattle.std.proofs.Common.{All, take}
use Rattle.vipr_print.specs.Unique.{IsShortRow}
use Rattle.vipr_print.proofs.sizes.rows_are_short.Given as goal

abbrev pub invariant-loop-row : goal.invariant-loop-row
invariant-loop-row l = All IsShortRow (take l.row-index l.rows)
