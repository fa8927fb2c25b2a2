use Rattle.std.proofs.Common.{◌∙◌, ap, sym, rules, arith, Some}
use Rattle.std.specs.Prelude.{◌+ℤ◌, ◌*ℤ◌}
use Rattle.std.specs.Int.{w64, w128}
use Rattle.std.proofs.lemmas.Int.{to_z-of_z, ints}
use mir.Val.{SFits}
use Rattle.fraction.specs.Rational.{whole}
use Rattle.derivation_book.proofs.ShortProducts.{whole_added}
use Rattle.derivation_book.proofs.combination.with_short_product.Goals as goal

pub returns-in-Some-Some-Some : goal.returns-in-Some-Some-Some
returns-in-Some-Some-Some c =
    let a = c.in-Some-Some-Some.total in
    let b = c.in-Some-Some-Some.factor in
    let n = c.in-Some-Some-Some.number in
    let p = c.short_product-product.result in
    let u = c.short_sum.result in
    let a_fits : SFits w64 a = search rules in
    let b_fits : SFits w64 b = search rules in
    let n_fits : SFits w64 n = search rules in
    let p_fits : SFits w128 p = search rules in
    let u_fits : SFits w128 u = search rules in
    whole_added c.args.total c.args.factor c.args.number a b n p u c.in-Some-Some-Some.ensures c.in-Some-Some-Some.ensures' c.in-Some-Some-Some.ensures''
    (c.short_product-product.ensures.value ∙ (λ i. to_z-of_z w64 b b_fits i *ℤ to_z-of_z w64 n n_fits i))
    (c.short_sum.ensures.value ∙ (λ i. to_z-of_z w64 a a_fits i +ℤ to_z-of_z w128 p p_fits i))
    (omega (arith, ints, a_fits.sfits)) (omega (arith, c.short_product-product.ensures.small)) c.short_sum.ensures.small
    ∙ ap Some (ap whole (sym (to_z-of_z w128 u u_fits)) ∙ sym c.of.ensures)
