use Rattle.std.proofs.Common.{◌∙◌, rules}
use Rattle.std.specs.Prelude.{◌+ℤ◌, ◌*ℤ◌}
use Rattle.std.specs.Int.{w64, w128}
use Rattle.std.proofs.lemmas.Int.{to_z-of_z}
use mir.Val.{SFits}
use Rattle.gomory_cuts.proofs.filled_column.with_bound.Goals as goal

pub returns : goal.returns
returns c =
    let p = c.short_product.result in
    let s = c.in_ok-sum.sum in
    let p_fits : SFits w128 p = search rules in
    let s_fits : SFits w128 s = search rules in
    to_z-of_z w128 s s_fits ∙ c.in_ok-sum.ensures.1
    ∙ (λ i. to_z-of_z w128 c.args.side c.ranges.side i +ℤ (to_z-of_z w128 p p_fits ∙ c.short_product.ensures.value ∙ (λ k. to_z-of_z w64 c.args.filling c.ranges.filling k *ℤ to_z-of_z w64 c.args.bound c.ranges.bound k)) i)
