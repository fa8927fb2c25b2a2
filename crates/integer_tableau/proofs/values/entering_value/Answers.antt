use Rattle.std.proofs.Common.{rules, ◌≡◌, ◌-ℤ◌, ◌*ℤ◌, ◌∙◌, ap}
use Rattle.std.specs.Int.{w128}
use mir.Val.{SFits}
use Rattle.std.proofs.lemmas.Int.{to_z-of_z}
use Rattle.integer_tableau.proofs.Lists.{if_some}
use Rattle.integer_tableau.specs.Substitution.{quotient_numerator}
use Rattle.integer_tableau.proofs.values.entering_value.Goals as goal

pub returns : goal.returns
returns c =
    let l : SFits w128 c.in_ok-rest.rest = search rules in
    let m : SFits w128 c.in_ok-rest-2.rest = search rules in
    let p = c.ranges.pivot in let x = c.ranges.nonbasic_value in let v = c.ranges.value in let b = c.ranges.bound in let d = c.ranges.denominator in
    let one : c.in_ok-rest.rest ≡ c.args.value -ℤ c.args.pivot *ℤ c.args.nonbasic_value = simp to_z-of_z at c.in_ok-rest.ensures in
    let two : c.in_ok-rest-2.rest ≡ c.in_ok-rest.rest -ℤ c.args.denominator *ℤ c.args.bound = simp to_z-of_z at c.in_ok-rest-2.ensures in
    if_some _ _ c.quotient_numerator.result (λ v h. (let g : v ≡ quotient_numerator c.args.pivot c.in_ok-rest-2.rest = simp to_z-of_z at h in g) ∙ ap (quotient_numerator c.args.pivot) (two ∙ ap (λ z. z -ℤ c.args.denominator *ℤ c.args.bound) one)) c.quotient_numerator.ensures
