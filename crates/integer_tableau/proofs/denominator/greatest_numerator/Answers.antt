use Rattle.std.proofs.Common.{ℕ, ◌≤◌, ap, arith, below_more, get_or, nat_abs, rules, ◌∙◌, w64, to_z, of_z}
use mir.Val.{SFits}
use Rattle.std.proofs.lemmas.Int.{to_z-of_z}
use Rattle.integer_tableau.specs.Combined.{value_numerator}
use Rattle.integer_tableau.specs.Numbers.{number_at}
use Rattle.integer_tableau.specs.declared.position.Position.TheVariants.{InBasis}
use Rattle.integer_tableau.proofs.denominator.greatest_numerator.Goals as goal

pub loop-j-preserved : goal.loop-j-preserved
loop-j-preserved c =
    let j = c.loop-j.j in
    let d = to_z w64 (of_z w64 c.args.denominator) in
    let ss = c.args.positions.now in let xs = c.args.nonbasic_values.now in let vs = c.args.values.now in
    let x = c.column_value-numerator.result in
    let fx : SFits w64 (number_at xs j) = search rules in
    let fv : SFits w64 (number_at vs j) = search rules in
    let fr : SFits w64 x = search rules in
    let one = to_z-of_z w64 x fr ∙ c.column_value-numerator.ensures ∙ (λ i. value_numerator d (get_or ss j InBasis) (to_z-of_z w64 (number_at xs j) fx i) (to_z-of_z w64 (number_at vs j) fv i)) in
    let more : c.loop-j.greatest ≤ c.max-greatest.result = search rules in
    let within : c.unsigned_abs.result ≤ c.max-greatest.result = search rules in
    below_more (λ (u : ℕ). nat_abs (value_numerator d (get_or ss u InBasis) (number_at xs u) (number_at vs u)) ≤ c.max-greatest.result) j
    (λ u l. omega (arith, c.loop-j.invariant u l, more)) (omega (arith, c.unsigned_abs.ensures.value, ap nat_abs one, within))
