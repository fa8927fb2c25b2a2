use Rattle.std.proofs.Common.{arith, ℤ, pos, nat_abs, ◌<◌, length}
use Rattle.std.proofs.lemmas.List.Elements.{All-more}
use Rattle.vipr_print.specs.Unique.{IsShort}
use Rattle.vipr_print.proofs.EachPart.{each_all}
use Rattle.vipr_print.proofs.sizes.point_is_short.Goals as goal

pub loop-number-preserved : goal.loop-number-preserved
loop-number-preserved c =
    let l : c.loop-number.number-index < length c.args.point.now = omega arith in
    All-more (λ (z : ℤ). IsShort (nat_abs z)) c.args.point.now c.loop-number.number-index (pos 0) l c.loop-number.invariant c.number_is_short.ensures

pub returns : goal.returns
returns c = each_all (λ (z : ℤ). IsShort (nat_abs z)) c.args.point.now c.loop-number.number-index (omega arith) c.loop-number.invariant
