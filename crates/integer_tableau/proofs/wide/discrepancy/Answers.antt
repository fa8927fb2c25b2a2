use Rattle.std.proofs.Common.{◌≡◌, ◌-ℤ◌, ◌*ℤ◌, ◌∙◌, ℤ, pos, ap, arith, sym, subst, w64, to_z, of_z}
use mir.Val.{SFits}
use Rattle.std.specs.Int.{w128}
use Rattle.std.proofs.lemmas.Int.{ints, to_z-of_z, fits_signed_from_abs}
use Rattle.integer_tableau.proofs.Loops.{difference_below}
use Rattle.integer_tableau.proofs.wide.discrepancy.Goals as goal

same_from_none : (x y : ℤ) → pos 0 ≡ x -ℤ y → x ≡ y
same_from_none x y e = omega (arith, ints)

pub overflow_sub-product : goal.overflow_sub-product
overflow_sub-product c =
    let fp : SFits w128 c.product.result = record { sfits = c.product.type_inv } in
    subst (SFits w128) (sym (λ i. to_z-of_z w128 c.product.result fp i -ℤ to_z-of_z w128 c.args.dividend c.ranges.dividend i)) (fits_signed_from_abs w128 _ (difference_below c.product.result c.args.dividend c.product.ensures.small c.requires.dividend_small))

pub returns : goal.returns
returns c = λ none.
    let x = c.product.result in
    let y = c.args.dividend in
    let fp : SFits w128 x = record { sfits = c.product.type_inv } in
    let whole = to_z-of_z w128 (x -ℤ y) (fits_signed_from_abs w128 _ (difference_below x y c.product.ensures.small c.requires.dividend_small)) in
    let back = ap (λ z. to_z w128 (of_z w128 z)) (λ i. to_z-of_z w128 x fp i -ℤ to_z-of_z w128 y c.ranges.dividend i) ∙ whole in
    let zero : pos 0 ≡ x -ℤ y = ap (to_z w128) (sym none ∙ c.cast_unsigned.ensures) ∙ ap (λ z. to_z w128 (of_z w128 z)) back ∙ whole in
    sym (c.product.ensures.value ∙ (λ i. to_z-of_z w64 c.args.quotient c.ranges.quotient i *ℤ to_z-of_z w64 c.args.denominator c.ranges.denominator i)) ∙ same_from_none x y zero
