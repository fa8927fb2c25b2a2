use Rattle.std.proofs.Common.{◌≡◌, ◌∙◌, ◌+ℤ◌, ◌*ℤ◌, ◌<◌, ◌^◌, ap, arith, get_or, nat_abs, pos, rules, w64, to_z, of_z}
use Rattle.std.specs.Int.{w128}
use mir.Val.{SFits}
use Rattle.std.proofs.lemmas.Int.{to_z-of_z, fits_signed_from_abs}
use Rattle.fraction.specs.Lemmas.Integers.{back128}
use Rattle.integer_tableau.proofs.CombinedLoops.{product_fits, product_more}
use Rattle.integer_tableau.specs.Range.{size_limit}
use Rattle.integer_tableau.proofs.combination.add_product.Goals as goal

total_is : (c : goal.After-sums-1) → to_z w128 (of_z w128 (get_or c.args.sums.now c.args.column (pos 0))) ≡ get_or c.args.sums.now c.args.column (pos 0)
total_is c =
    let g : SFits w128 (get_or c.args.sums.now c.args.column (pos 0)) = search rules in
    to_z-of_z w128 (get_or c.args.sums.now c.args.column (pos 0)) g

product_is : (c : goal.After-sums-1) → to_z w128 (of_z w128 c.product.result) ≡ c.args.factor *ℤ c.args.denominator
product_is c =
    let f : SFits w128 c.product.result = search rules in
    to_z-of_z w128 c.product.result f ∙ c.product.ensures ∙ (λ i. to_z-of_z w64 c.args.factor c.ranges.factor i *ℤ to_z-of_z w64 c.args.denominator c.ranges.denominator i)

fits : (c : goal.After-sums-1) → nat_abs (to_z w128 (of_z w128 (get_or c.args.sums.now c.args.column (pos 0))) +ℤ to_z w128 (of_z w128 c.product.result)) < 2 ^ 127
fits c = product_fits _ _ c.args.factor c.args.denominator size_limit (omega (arith, c.requires.room, ap nat_abs (total_is c))) (omega (arith, c.requires.small)) (product_is c)

pub overflow_add-sums : goal.overflow_add-sums
overflow_add-sums c = fits_signed_from_abs w128 _ (fits c)

pub returns : goal.returns
returns c = λ k. product_more c.args.sums.now c.args.column k _ c.args.factor c.args.denominator c.requires.there c.requires.positive (back128 _ (fits c) ∙ (λ i. total_is c i +ℤ product_is c i))
