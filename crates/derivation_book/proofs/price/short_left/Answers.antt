use Rattle.std.proofs.Common.{◌∙◌, ap, sym, rules, arith, Some}
use Rattle.std.specs.Prelude.{◌-ℤ◌}
use Rattle.std.specs.Int.{w64, w128}
use Rattle.std.proofs.lemmas.Int.{to_z-of_z, ints}
use mir.Val.{SFits}
use Rattle.fraction.specs.Rational.{whole}
use Rattle.derivation_book.proofs.ShortProducts.{whole_left}
use Rattle.derivation_book.proofs.price.short_left.Goals as goal

pub returns-in-Some-Some : goal.returns-in-Some-Some
returns-in-Some-Some c =
    let a = c.in-Some-Some.wanted in
    let b = c.in-Some-Some.combined in
    let z = c.short_difference.result in
    let a_fits : SFits w64 a = search rules in
    let b_fits : SFits w64 b = search rules in
    let z_fits : SFits w128 z = search rules in
    whole_left c.args.wanted c.args.combined a b z c.in-Some-Some.ensures c.in-Some-Some.ensures'
    (c.short_difference.ensures.value ∙ (λ i. to_z-of_z w64 a a_fits i -ℤ to_z-of_z w64 b b_fits i))
    (omega (arith, ints, a_fits.sfits)) (omega (arith, ints, b_fits.sfits)) c.short_difference.ensures.small
    ∙ ap Some (ap whole (sym (to_z-of_z w128 z z_fits)) ∙ sym c.of.ensures)
