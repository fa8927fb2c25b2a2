use Rattle.std.proofs.Common.{◌≡◌, ◌∙◌, ◌+ℤ◌, ◌*ℤ◌, get_or, pos, arith, ap, rules, w64, to_z, of_z}
use Rattle.std.specs.Int.{int_wrap}
use mir.Val.{SFits}
use Rattle.std.proofs.lemmas.Int.{to_z-of_z}
use Rattle.integer_tableau.proofs.Lists.{each_more, others_more}
use Rattle.integer_tableau.proofs.LowSums.{wrapped_twice}
use Rattle.integer_tableau.specs.Numbers.{number_at}
use Rattle.integer_tableau.proofs.low_sums.add_multiple.Goals as goal

pub loop-k-preserved : goal.loop-k-preserved
loop-k-preserved c =
    let k = c.loop-k.k in
    let z = to_z w64 (of_z w64 c.args.factor) in
    let new = to_z w64 (of_z w64 c.multiple_sum.result) in
    let f : SFits w64 c.multiple_sum.result = search rules in
    let g : SFits w64 (get_or c.loop-k.sums k (pos 0)) = search rules in
    let h : SFits w64 (get_or c.args.row.now k (pos 0)) = search rules in
    record {
      done = each_more (λ i a b. int_wrap w64 b ≡ int_wrap w64 (a +ℤ z *ℤ number_at c.args.row.now i)) (pos 0) c.args.sums.now c.loop-k.sums k new (omega arith) c.loop-k.invariant.done
          (ap (int_wrap w64) (to_z-of_z w64 c.multiple_sum.result f ∙ c.multiple_sum.ensures) ∙ wrapped_twice _
          ∙ (λ i. int_wrap w64 ((to_z-of_z w64 (get_or c.loop-k.sums k (pos 0)) g ∙ c.loop-k.invariant.left k (omega arith)) i +ℤ z *ℤ to_z-of_z w64 (get_or c.args.row.now k (pos 0)) h i)));
      left = others_more (pos 0) c.args.sums.now c.loop-k.sums k new c.loop-k.invariant.left;
    }
