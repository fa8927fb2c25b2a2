use Rattle.std.proofs.Common.{subst, arith}
use Rattle.vipr_print.specs.Unique.{IsShortPoint}
use Rattle.vipr_print.proofs.EachPart.{each_more, each_all}
use Rattle.vipr_print.proofs.sizes.points_are_short.Goals as goal

pub loop-point-preserved : goal.loop-point-preserved
loop-point-preserved c = each_more IsShortPoint c.args.points.now c.loop-point.point-index _ (omega arith) c.point-item.is c.loop-point.invariant (subst IsShortPoint c.as_slice.ensures c.point_is_short.ensures)

pub returns : goal.returns
returns c = each_all IsShortPoint c.args.points.now c.loop-point.point-index (omega arith) c.loop-point.invariant
