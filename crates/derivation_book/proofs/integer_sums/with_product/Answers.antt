use Rattle.std.proofs.Common.{◌<◌, ◌^◌, ◌+ℤ◌, ◌*ℤ◌, ◌∙◌, nat_abs, refl, arith, rules}
use Rattle.std.specs.Int.{w64, w128}
use Rattle.std.proofs.lemmas.Int.{to_z-of_z}
use Rattle.std.proofs.lemmas.Grind.{common_steps}
use mir.Val.{SFits, to_z, of_z}
use Rattle.fraction.specs.Rational.{whole}
use Rattle.derivation_book.proofs.ShortProducts.{whole_added}
use Rattle.derivation_book.proofs.integer_sums.with_product.Goals as goal

pub returns-else-sum-clause-value : goal.returns-else-sum-clause-value
returns-else-sum-clause-value c =
    let p = c.short_product.result in
    let s = c.in_ok-sum.sum in
    let u = to_z w128 (of_z w128 s) in
    let p_fits : SFits w128 p = search rules in
    let s_fits : SFits w128 s = search rules in
    let small : nat_abs u < 2 ^ 127 = first_of (search rules, grind (arith, common_steps)) in
    whole_added (whole c.args.total) (whole c.args.factor) (whole c.args.number) c.args.total c.args.factor c.args.number p u refl refl refl
    (c.short_product.ensures.value ∙ (λ i. to_z-of_z w64 c.args.factor c.ranges.factor i *ℤ to_z-of_z w64 c.args.number c.ranges.number i))
    (to_z-of_z w128 s s_fits ∙ c.in_ok-sum.ensures.1 ∙ (λ i. to_z-of_z w128 c.args.total c.ranges.total i +ℤ to_z-of_z w128 p p_fits i))
    c.requires (omega (arith, c.short_product.ensures.small)) small
