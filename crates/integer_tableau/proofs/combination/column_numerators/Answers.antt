use Rattle.std.proofs.Common.{[], ◌∷◌, ◌++◌, ◌+◌, ◌*◌, ◌<◌, ◌^◌, rules, arith, ap, drop, get_or, nat_abs, pos, sym, subst, ◌∙◌, w64, to_z, of_z}
use mir.Val.{SFits}
use Rattle.std.proofs.lemmas.Int.{to_z-of_z}
use Rattle.integer_tableau.proofs.Products.{numerators_done, numerators_more}
use Rattle.integer_tableau.specs.Combined.{value_numerator, value_numerators}
use Rattle.integer_tableau.specs.Numbers.{number_at}
use Rattle.integer_tableau.specs.declared.position.Position.TheVariants.{InBasis}
use Rattle.integer_tableau.proofs.combination.column_numerators.Goals as goal

pub column_value-requires : goal.column_value-requires
column_value-requires c =
    let j = c.loop-j.j in
    let xs = c.args.nonbasic_values.now in
    let g : SFits w64 (get_or xs j (pos 0)) = search rules in
    subst (λ z. nat_abs z * nat_abs (to_z w64 (of_z w64 c.args.denominator)) < 2 ^ 63) (sym (to_z-of_z w64 (get_or xs j (pos 0)) g))
    (subst (λ z. nat_abs (get_or xs j (pos 0)) * nat_abs z < 2 ^ 63) (sym (to_z-of_z w64 c.args.denominator c.ranges.denominator)) (c.requires.near j c.loop-j-test.true))

pub loop-j-preserved : goal.loop-j-preserved
loop-j-preserved c =
    let j = c.loop-j.j in
    let d = to_z w64 (of_z w64 c.args.denominator) in
    let ss = c.args.positions.now in let xs = c.args.nonbasic_values.now in let vs = c.args.values.now in
    let fx : SFits w64 (number_at xs j) = search rules in
    let fv : SFits w64 (number_at vs j) = search rules in
    let fr : SFits w64 c.column_value.result = search rules in
    let one = to_z-of_z w64 c.column_value.result fr ∙ c.column_value.ensures ∙ (λ i. value_numerator d (get_or ss j InBasis) (to_z-of_z w64 (number_at xs j) fx i) (to_z-of_z w64 (number_at vs j) fv i)) in
    record {
      numerators = ap (λ all. all ++ value_numerators d (drop (j + 1) ss) (drop (j + 1) xs) (drop (j + 1) vs)) (c.in_ok-push.ensures.items ∙ ap (λ v. c.loop-j.all.items ++ (v ∷ [])) one)
          ∙ numerators_more d c.loop-j.all.items ss xs vs j _ (omega (arith, c.loop-j-test.true, c.requires.positions_there)) (omega (arith, c.loop-j-test.true, c.requires.nonbasic_values_there)) c.loop-j-test.true c.loop-j.invariant.numerators;
      count = omega (arith, c.in_ok-push.ensures.len, c.loop-j.invariant.count);
    }

pub returns-clause-value : goal.returns-clause-value
returns-clause-value c =
    numerators_done (to_z w64 (of_z w64 c.args.denominator)) c.loop-j.all.items c.args.positions.now c.args.nonbasic_values.now c.args.values.now c.loop-j.j _ c.loop-j-test.false c.loop-j.invariant.numerators
    ∙ ap (λ z. value_numerators z c.args.positions.now c.args.nonbasic_values.now c.args.values.now) (to_z-of_z w64 c.args.denominator c.ranges.denominator)
