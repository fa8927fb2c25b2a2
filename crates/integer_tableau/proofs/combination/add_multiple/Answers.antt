use Rattle.std.proofs.Common.{◌≡◌, ◌∙◌, ◌+ℤ◌, ◌*ℤ◌, ◌<◌, ◌^◌, ap, arith, get_or, nat_abs, pos, rules, w64, to_z, of_z}
use Rattle.std.specs.Int.{w128}
use mir.Val.{SFits}
use Rattle.std.proofs.lemmas.Int.{to_z-of_z, fits_signed_from_abs}
use Rattle.fraction.specs.Lemmas.Integers.{back128}
use Rattle.integer_tableau.proofs.CombinedLoops.{product_fits}
use Rattle.integer_tableau.proofs.Lists.{each_more, others_more}
use Rattle.integer_tableau.specs.Numbers.{number_at}
use Rattle.integer_tableau.specs.Range.{size_limit}
use Rattle.integer_tableau.proofs.combination.add_multiple.Goals as goal

total_is : (c : goal.After-number-in-loop-k-1) → to_z w128 (of_z w128 (get_or c.loop-k.sums c.loop-k.k (pos 0))) ≡ number_at c.args.sums.now c.loop-k.k
total_is c =
    let g : SFits w128 (get_or c.loop-k.sums c.loop-k.k (pos 0)) = search rules in
    to_z-of_z w128 (get_or c.loop-k.sums c.loop-k.k (pos 0)) g ∙ c.loop-k.invariant.left c.loop-k.k (omega arith)

product_is : (c : goal.After-number-in-loop-k-1) → to_z w128 (of_z w128 c.product.result) ≡ to_z w64 (of_z w64 c.args.factor) *ℤ number_at c.args.row.now c.loop-k.k
product_is c =
    let f : SFits w128 c.product.result = search rules in
    let h : SFits w64 (number_at c.args.row.now c.loop-k.k) = search rules in
    to_z-of_z w128 c.product.result f ∙ c.product.ensures ∙ ap (λ x. to_z w64 (of_z w64 c.args.factor) *ℤ x) (to_z-of_z w64 (number_at c.args.row.now c.loop-k.k) h)

fits : (c : goal.After-number-in-loop-k-1) → nat_abs (to_z w128 (of_z w128 (get_or c.loop-k.sums c.loop-k.k (pos 0))) +ℤ to_z w128 (of_z w128 c.product.result)) < 2 ^ 127
fits c = product_fits _ _ (to_z w64 (of_z w64 c.args.factor)) (number_at c.args.row.now c.loop-k.k) size_limit
    (omega (arith, c.requires.room c.loop-k.k, ap nat_abs (total_is c), ap nat_abs (to_z-of_z w64 c.args.factor c.ranges.factor))) (omega (arith, c.requires.row_small c.loop-k.k)) (product_is c)

pub overflow_add-number : goal.overflow_add-number
overflow_add-number c = fits_signed_from_abs w128 _ (fits c)

pub loop-k-preserved : goal.loop-k-preserved
loop-k-preserved c =
    let k = c.loop-k.k in
    let z = to_z w64 (of_z w64 c.args.factor) in
    let new = to_z w128 (of_z w128 (to_z w128 (of_z w128 (get_or c.loop-k.sums k (pos 0))) +ℤ to_z w128 (of_z w128 c.product.result))) in
    record {
      done = each_more (λ i a b. b ≡ a +ℤ z *ℤ number_at c.args.row.now i) (pos 0) c.args.sums.now c.loop-k.sums k new (omega arith) c.loop-k.invariant.done
          (back128 _ (fits c) ∙ (λ i. total_is c i +ℤ product_is c i));
      left = others_more (pos 0) c.args.sums.now c.loop-k.sums k new c.loop-k.invariant.left;
    }
