use Rattle.std.proofs.Common.{◌≡◌, ◌<◌, ◌≤◌, ◌*◌, ◌+◌, ◌^◌, ◌+ℤ◌, ◌*ℤ◌, ◌∙◌, ℤ, nat_abs, to_z, of_z, arith, rules, ap, sym, subst}
use mir.Val.{SFits}
use Rattle.std.specs.Int.{w128}
use Rattle.std.proofs.lemmas.Int.{ints, fits_signed_from_abs, to_z-of_z}
use Rattle.problem.specs.Limits.{most_columns}
use Rattle.dual_simplex.specs.Scaled.{numerator_at, largest_product}
use Rattle.dual_simplex.proofs.narrow_sums.with_term.Goals as goal

sum_small : (t p : ℤ) → nat_abs t ≤ most_columns * largest_product → nat_abs p ≤ largest_product → nat_abs (t +ℤ p) < 2 ^ 127
sum_small t p h k = omega (arith, ints)

sum_most : (t p : ℤ) → nat_abs p ≤ largest_product → nat_abs (t +ℤ p) ≤ nat_abs t + largest_product
sum_most t p k = omega (arith, ints)

terms : (c : goal.After-product) → to_z w128 (of_z w128 c.args.total) +ℤ to_z w128 (of_z w128 c.product.result) ≡ c.args.total +ℤ c.product.result
terms c =
    let f : SFits w128 c.product.result = record { sfits = c.product.type_inv } in
    λ i. to_z-of_z w128 c.args.total c.ranges.total i +ℤ to_z-of_z w128 c.product.result f i

pub overflow_add-result : goal.overflow_add-result
overflow_add-result c = subst (SFits w128) (sym (terms c)) (fits_signed_from_abs w128 _ (sum_small c.args.total c.product.result c.requires c.product.ensures.small))

total_is : (c : goal.After-product) → to_z w128 (of_z w128 (to_z w128 (of_z w128 c.args.total) +ℤ to_z w128 (of_z w128 c.product.result))) ≡ c.args.total +ℤ c.product.result
total_is c = to_z-of_z w128 _ (overflow_add-result c) ∙ terms c

pub returns-clause-value : goal.returns-clause-value
returns-clause-value c =
    let k = c.in_ok-coefficient.coefficient in
    let x = c.numerator_in.result in
    let fk : SFits w128 k = search rules in
    let fx : SFits w128 x = record { sfits = c.numerator_in.type_inv } in
    total_is c ∙ ap (λ (p : ℤ). c.args.total +ℤ p) (c.product.ensures.value
    ∙ (λ i. (to_z-of_z w128 k fk ∙ c.in_ok-coefficient.ensures.value) i *ℤ (to_z-of_z w128 x fx ∙ c.numerator_in.ensures.value ∙ ap (numerator_at c.args.numerators.now) c.column.ensures) i))

pub returns-clause-small : goal.returns-clause-small
returns-clause-small c = subst (λ (z : ℤ). nat_abs z ≤ nat_abs c.args.total + largest_product) (sym (total_is c)) (sum_most c.args.total c.product.result c.product.ensures.small)
