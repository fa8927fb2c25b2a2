use Rattle.std.proofs.Common.{ℕ, ◌<◌, [], length, get_or, set, refl, rules, ◌-ℤ◌, ◌*ℤ◌, sym, subst, ◌∙◌, w64, to_z, of_z}
use Rattle.std.specs.Int.{w128}
use mir.Val.{SFits}
use Rattle.std.proofs.lemmas.Int.{to_z-of_z}
use Rattle.integer_tableau.proofs.FromCode.{values_put}
use Rattle.integer_tableau.specs.Numbers.{number_at}
use Rattle.integer_tableau.specs.Pivot.{AreSubstitutedValues, IsSubstitutedValue}
use Rattle.integer_tableau.specs.Substitution.{quotient_numerator}
use Rattle.integer_tableau.proofs.values.change_values.Goals as goal

pub returns-then-substitute_values : goal.returns-then-substitute_values
returns-then-substitute_values c = λ ok.
    let d = c.args.divisor.number in
    let xb = to_z-of_z w64 c.args.nonbasic_value c.ranges.nonbasic_value in
    let eb = to_z-of_z w64 c.args.pivot_size c.ranges.pivot_size in
    let pb = to_z-of_z w64 c.args.pivot c.ranges.pivot in
    let bb = to_z-of_z w64 c.args.bound c.ranges.bound in
    let lb = to_z-of_z w128 c.args.leaving_value c.ranges.leaving_value in
    let f : SFits w128 c.in-Some.value = search rules in
    let g : SFits w64 c.number.result = search rules in
    let z = to_z w128 (of_z w128 c.in-Some.value) in
    let new = c.substitute_values.new.values in
    let steps : (v : ℕ) → v < length c.args.values.now → IsSubstitutedValue c.args.width c.args.column c.args.nonbasic_value c.args.pivot_size z d (get_or c.args.rows.now v []) (number_at c.args.values.now v) (number_at new v) =
    λ v l. subst (λ x. IsSubstitutedValue c.args.width c.args.column x c.args.pivot_size z d (get_or c.args.rows.now v []) (number_at c.args.values.now v) (number_at new v)) xb
    (subst (λ e. IsSubstitutedValue c.args.width c.args.column (to_z w64 (of_z w64 c.args.nonbasic_value)) e z d (get_or c.args.rows.now v []) (number_at c.args.values.now v) (number_at new v)) eb (c.if-substitute_values.ensures refl v l)) in
    subst (λ vs. AreSubstitutedValues c.args.entering c.args.column d c.args.pivot_size c.args.nonbasic_value
    (quotient_numerator c.args.pivot (c.args.leaving_value -ℤ c.args.pivot *ℤ c.args.nonbasic_value -ℤ d *ℤ c.args.bound)) c.args.width c.args.rows.now c.args.values.now vs) (sym (c.put_value.ensures ok))
    (subst (λ y. AreSubstitutedValues c.args.entering c.args.column d c.args.pivot_size c.args.nonbasic_value y c.args.width c.args.rows.now c.args.values.now (set new c.args.entering z))
    (to_z-of_z w128 c.in-Some.value f ∙ c.in-Some.ensures
    ∙ (λ i. quotient_numerator (pb i) (lb i -ℤ pb i *ℤ xb i -ℤ (to_z-of_z w64 c.number.result g ∙ c.number.ensures) i *ℤ bb i)))
    (values_put c.args.entering c.args.column c.args.width d c.args.pivot_size c.args.nonbasic_value z c.args.rows.now c.args.values.now new steps c.substitute_values.auto.values))
