use Rattle.std.proofs.Common.{◌≡◌, ◌∙◌, sym, ap, arith, to_z, of_z, w64, Some}
use mir.Syntax.{w128}
use Rattle.std.specs.Prelude.{ℤ, pos}
use Rattle.std.proofs.lemmas.Int.{ints}
use Rattle.std.proofs.lemmas.Option.{get_or_from_slice_get}
use Rattle.fraction.specs.Rational.{whole, floor}
use Rattle.dual_simplex.specs.Relaxation.{rational_at}
use Rattle.node_events.specs.declared.reason.Reason.TheVariants.{Fractional}
use Rattle.expand.proofs.Optima.{floor_modest}
use Rattle.expand.proofs.settling.branching_at.Goals as goal

pub overflow_cast-bound : goal.overflow_cast-bound
overflow_cast-bound c =
    let h = floor_modest c.args.area.now c.args.point c.args.column c.get.result c.requires.inside c.requires.modest c.get.ensures in
    omega (arith, ints, h, c.floor-bound.ensures.value)

pub returns : goal.returns
returns c =
    let x = c.args.point in
    let j = c.args.column in
    let h = floor_modest c.args.area.now x j c.get.result c.requires.inside c.requires.modest c.get.ensures in
    let kept : to_z w64 (of_z w64 (to_z w128 (of_z w128 c.floor-bound.result))) ≡ floor c.get.result = grind (arith, ints, h, c.floor-bound.ensures.value) in
    let same : to_z w64 (of_z w64 (to_z w128 (of_z w128 c.floor-bound.result))) ≡ floor (rational_at x j) = kept ∙ ap floor (sym (get_or_from_slice_get x j c.get.result (whole (pos 0)) c.get.ensures)) in
    ap (λ (b : ℤ). record { place = record { column = j; bound = b }; reason = Fractional c.args.cuts x; value = Some c.args.value }) same
