use Rattle.std.proofs.Common.{◌≡◌, ◌∙◌, ◌+ℤ◌, ◌*ℤ◌, to_z, of_z, w64, ap, sym, subst, rules}
use Rattle.std.specs.Int.{w128}
use Rattle.std.proofs.lemmas.Int.{fits_signed_from_abs, to_z-of_z}
use mir.Val.{SFits}
use Rattle.fraction.specs.Rational.{whole}
use Rattle.row_activity.specs.Activity.{end_for}
use Rattle.row_activity.proofs.activity.with_integer_end.Goals as goal

-- the product is that of the coefficient with the end
product_is : (c : goal.After-integer_product) → c.integer_product.result ≡ c.args.coefficient *ℤ end_for c.args.extreme (whole c.args.coefficient) c.args.span
product_is c =
    let end = c.end_for-end.result in
    let end_fits : SFits w64 end = record { sfits = c.end_for-end.type_inv } in
    let of_is : c.of.result ≡ whole c.args.coefficient = search rules in
    c.integer_product.ensures
    ∙ (λ i. to_z-of_z w64 c.args.coefficient c.ranges.coefficient i *ℤ (to_z-of_z w64 end end_fits ∙ c.end_for-end.ensures ∙ ap (λ q. end_for c.args.extreme q c.args.span) of_is) i)

sum_is : (c : goal.After-integer_product) → to_z w128 (of_z w128 c.args.total) +ℤ to_z w128 (of_z w128 c.integer_product.result) ≡ c.args.total +ℤ c.args.coefficient *ℤ end_for c.args.extreme (whole c.args.coefficient) c.args.span
sum_is c =
    let fits : SFits w128 c.integer_product.result = record { sfits = c.integer_product.type_inv } in
    λ i. to_z-of_z w128 c.args.total c.ranges.total i +ℤ (to_z-of_z w128 c.integer_product.result fits ∙ product_is c) i

pub overflow_add-result : goal.overflow_add-result
overflow_add-result c = subst (SFits w128) (sym (sum_is c)) (fits_signed_from_abs w128 _ c.requires)

pub returns : goal.returns
returns c = to_z-of_z w128 _ (overflow_add-result c) ∙ sum_is c
