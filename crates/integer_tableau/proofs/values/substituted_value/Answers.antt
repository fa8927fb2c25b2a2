use Rattle.std.proofs.Common.{rules, ◌≡◌, ◌+ℤ◌, ◌-ℤ◌, ◌*ℤ◌, ◌∙◌, ap, w64}
use Rattle.std.specs.Int.{w128}
use mir.Val.{SFits}
use Rattle.std.proofs.lemmas.Int.{to_z-of_z}
use Rattle.integer_tableau.proofs.Lists.{if_some}
use Rattle.integer_tableau.proofs.values.substituted_value.Goals as goal

pub returns : goal.returns
returns c =
    let l : SFits w128 c.in_ok-rest.rest = search rules in
    let m : SFits w128 c.in_ok-rest-2.rest = search rules in
    let n : SFits w128 c.in_ok-part.part = search rules in
    let y : SFits w128 c.in_ok-total.total = search rules in
    let q = c.ranges.factor in let x = c.ranges.nonbasic_value in let v = c.ranges.value in let e = c.ranges.pivot_size in let t = c.ranges.entering in
    let g : SFits w128 c.from.result = search rules in
    let one : c.in_ok-rest.rest ≡ c.args.value -ℤ c.args.factor *ℤ c.args.nonbasic_value =
    c.in_ok-rest.ensures ∙ (λ i. (to_z-of_z w128 c.from.result g ∙ c.from.ensures ∙ to_z-of_z w64 c.args.value v) i -ℤ to_z-of_z w64 c.args.factor q i *ℤ to_z-of_z w64 c.args.nonbasic_value x i) in
    let two : c.in_ok-rest-2.rest ≡ c.in_ok-rest.rest *ℤ c.args.pivot_size = simp to_z-of_z at c.in_ok-rest-2.ensures in
    let three : c.in_ok-part.part ≡ c.args.entering *ℤ c.args.factor = simp to_z-of_z at c.in_ok-part.ensures in
    let four : c.in_ok-total.total ≡ c.in_ok-rest-2.rest +ℤ c.in_ok-part.part = simp to_z-of_z at c.in_ok-total.ensures in
    if_some _ _ c.exact_quotient.result (λ v h. (let g : v *ℤ c.args.divisor.number ≡ c.in_ok-total.total = simp to_z-of_z at h in g) ∙ four ∙ (λ i. (two ∙ ap (λ z. z *ℤ c.args.pivot_size) one) i +ℤ three i)) c.exact_quotient.ensures
