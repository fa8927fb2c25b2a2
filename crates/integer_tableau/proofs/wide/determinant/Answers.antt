use Rattle.std.proofs.Common.{◌-ℤ◌, ◌*ℤ◌, ◌∙◌, arith, sym, subst, w64}
use mir.Val.{SFits}
use Rattle.std.specs.Int.{w128}
use Rattle.std.proofs.lemmas.Int.{to_z-of_z, fits_signed_from_abs}
use Rattle.integer_tableau.proofs.Loops.{difference_below, difference_is, difference_small}
use Rattle.integer_tableau.proofs.wide.determinant.Goals as goal

pub overflow_sub-result : goal.overflow_sub-result
overflow_sub-result c =
    let x = c.product.result in
    let y = c.product-2.result in
    let fx : SFits w128 x = record { sfits = c.product.type_inv } in
    let fy : SFits w128 y = record { sfits = c.product-2.type_inv } in
    subst (SFits w128) (sym (λ i. to_z-of_z w128 x fx i -ℤ to_z-of_z w128 y fy i)) (fits_signed_from_abs w128 _ (difference_below x y c.product.ensures.small (omega (arith, c.product-2.ensures.small))))

pub returns-clause-value : goal.returns-clause-value
returns-clause-value c =
    difference_is c.product.result c.product-2.result _ _ c.product.ensures.small c.product-2.ensures.small
    (c.product.ensures.value ∙ (λ i. to_z-of_z w64 c.args.s c.ranges.s i *ℤ to_z-of_z w64 c.args.q c.ranges.q i))
    (c.product-2.ensures.value ∙ (λ i. to_z-of_z w64 c.args.a c.ranges.a i *ℤ to_z-of_z w64 c.args.m c.ranges.m i))

pub returns-clause-small : goal.returns-clause-small
returns-clause-small c = difference_small c.product.result c.product-2.result c.product.ensures.small c.product-2.ensures.small
