use Rattle.std.proofs.Common.{◌<◌, length, arith}
use Rattle.vipr_print.proofs.Sequence.{points-more, points-broken, handed_on}
use Rattle.vipr_print.proofs.printing.print_each_point.Goals as goal

pub returns-in_err-print_point : goal.returns-in_err-print_point
returns-in_err-print_point g c = rw (handed_on _ _ c.from_residual.ensures.1)
    (points-broken _ _ _ _ _ _ _ c.args.points.now c.loop-i.i c.index-points-i.result _ (let l : c.loop-i.i < length c.args.points.now = omega arith in l) c.index-points-i.is c.loop-i.invariant (rw c.as_slice.ensures at c.in_err-print_point.ensures))

pub loop-i-preserved : goal.loop-i-preserved
loop-i-preserved g c =
    points-more _ _ _ _ _ _ _ c.args.points.now c.loop-i.i c.index-points-i.result (let l : c.loop-i.i < length c.args.points.now = omega arith in l) c.index-points-i.is c.loop-i.invariant (rw c.as_slice.ensures at c.in_ok-print_point.ensures)
