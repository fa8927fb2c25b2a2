use Rattle.std.proofs.Common.{◌≡◌, ◌*◌, ◌<◌, ◌^◌, nat_abs, sym, ◌∙◌, ap, arith, pos, ◌*ℤ◌, to_z, of_z}
use Rattle.std.specs.Int.{w128}
use mir.Val.{SFits}
use Rattle.std.proofs.lemmas.Int.{to_z-of_z, to_z_pos, unsigned_abs-mul}
use Rattle.fraction.specs.Rational.{frac}
use Rattle.fraction.specs.Lemmas.Integers.{back128}
use Rattle.scaled_program.proofs.Numbers.{scaled_is}
use Rattle.scaled_program.proofs.unscaling.scaled_by.Goals as goal

-- a number of 128 bits that is below 2^127 in size
pub returns : goal.returns
returns c =
    let x = c.args.number in
    let numerator : SFits w128 c.numer.result = record { sfits = c.numer.type_inv } in
    let factor : SFits w128 c.from.result = record { sfits = c.from.type_inv } in
    let product : nat_abs (x.num *ℤ pos c.args.times) ≡ nat_abs x.num * c.args.times = unsigned_abs-mul x.num (pos c.args.times) in
    let below : c.args.number.den * c.args.unit < 2 ^ 127 = omega (arith, c.requires.denominator) in
    let top : to_z w128 (of_z w128 (to_z w128 (of_z w128 c.numer.result) *ℤ to_z w128 (of_z w128 c.from.result))) ≡ x.num *ℤ pos c.args.times =
    ap (λ z. to_z w128 (of_z w128 z)) (λ i. (to_z-of_z w128 c.numer.result numerator ∙ c.numer.ensures) i *ℤ (to_z-of_z w128 c.from.result factor ∙ c.from.ensures) i)
    ∙ back128 (x.num *ℤ pos c.args.times) (omega (arith, product, c.requires.numerator)) in
    let bottom : c.cast_signed.result ≡ pos (x.den * c.args.unit) =
    c.cast_signed.ensures ∙ ap (to_z w128) (λ i. c.denom.ensures i * c.from-2.ensures i) ∙ to_z_pos w128 (x.den * c.args.unit) below in
    c.make.ensures
    ∙ (λ i. frac (top i) (nat_abs (to_z w128 (of_z w128 (bottom i)))))
    ∙ ap (λ z. frac (x.num *ℤ pos c.args.times) (nat_abs z)) (back128 (pos (x.den * c.args.unit)) below)
    ∙ sym (scaled_is c.args.times c.args.unit x c.requires.positive)
