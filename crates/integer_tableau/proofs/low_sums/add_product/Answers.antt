use Rattle.std.proofs.Common.{◌∙◌, ◌+ℤ◌, ◌*ℤ◌, get_or, pos, rules, w64, to_z, of_z}
use Rattle.std.specs.Int.{int_wrap}
use mir.Val.{SFits}
use Rattle.std.proofs.lemmas.Int.{to_z-of_z}
use Rattle.integer_tableau.proofs.LowSums.{low_product_more}
use Rattle.integer_tableau.proofs.low_sums.add_product.Goals as goal

pub returns : goal.returns
returns c = λ k _.
    let f : SFits w64 c.multiple_sum.result = search rules in
    let g : SFits w64 (get_or c.args.sums.now c.args.column (pos 0)) = search rules in
    low_product_more c.args.sums.now c.args.column k (to_z w64 (of_z w64 c.multiple_sum.result)) c.args.factor c.args.denominator c.requires.there c.requires.positive
    (to_z-of_z w64 c.multiple_sum.result f ∙ c.multiple_sum.ensures
    ∙ (λ i. int_wrap w64 (to_z-of_z w64 (get_or c.args.sums.now c.args.column (pos 0)) g i +ℤ to_z-of_z w64 c.args.factor c.ranges.factor i *ℤ to_z-of_z w64 c.args.denominator c.ranges.denominator i)))
