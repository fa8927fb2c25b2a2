use Rattle.std.proofs.Common.{arith}
use Rattle.vipr_print.specs.Unique.{IsShortRow}
use Rattle.vipr_print.proofs.EachPart.{each_more, each_all}
use Rattle.vipr_print.proofs.sizes.rows_are_short.Goals as goal

pub loop-row-preserved : goal.loop-row-preserved
loop-row-preserved c = each_more IsShortRow c.args.rows.now c.loop-row.row-index _ (omega arith) c.row-item.is c.loop-row.invariant c.row_is_short.ensures

pub returns : goal.returns
returns c = each_all IsShortRow c.args.rows.now c.loop-row.row-index (omega arith) c.loop-row.invariant
