use Rattle.std.proofs.Common.{[], ◌∷◌, ◌++◌, ◌+◌, rules, arith, ap, drop, get_or, nat_abs, ◌∙◌, w64, to_z, of_z}
use mir.Val.{SFits}
use Rattle.std.proofs.lemmas.Int.{to_z-of_z}
use Rattle.integer_tableau.proofs.Answering.{values_done, values_more}
use Rattle.integer_tableau.specs.IntegerTableau.{value, values_of}
use Rattle.integer_tableau.specs.Numbers.{number_at}
use Rattle.integer_tableau.specs.declared.position.Position.TheVariants.{InBasis}
use Rattle.integer_tableau.proofs.answers.column_values.Goals as goal

pub loop-j-preserved : goal.loop-j-preserved
loop-j-preserved c =
    let j = c.loop-j.j in
    let d = nat_abs (to_z w64 (of_z w64 c.args.denominator)) in
    let ss = c.args.positions.now in let xs = c.args.nonbasic_values.now in let vs = c.args.values.now in
    let fx : SFits w64 (number_at xs j) = search rules in
    let fv : SFits w64 (number_at vs j) = search rules in
    let one = c.column_value.ensures ∙ (λ i. value d (get_or ss j InBasis) (to_z-of_z w64 (number_at xs j) fx i) (to_z-of_z w64 (number_at vs j) fv i)) in
    ap (λ all. all ++ values_of d (drop (j + 1) ss) (drop (j + 1) xs) (drop (j + 1) vs)) (c.in_ok-push.ensures.items ∙ ap (λ v. c.loop-j.all.items ++ (v ∷ [])) one)
    ∙ values_more d c.loop-j.all.items ss xs vs j _ (omega (arith, c.loop-j-test.true, c.requires.positions_there)) (omega (arith, c.loop-j-test.true, c.requires.nonbasic_values_there)) c.loop-j-test.true c.loop-j.invariant

pub returns : goal.returns
returns c =
    values_done (nat_abs (to_z w64 (of_z w64 c.args.denominator))) c.loop-j.all.items c.args.positions.now c.args.nonbasic_values.now c.args.values.now c.loop-j.j _ c.loop-j-test.false c.loop-j.invariant
    ∙ ap (λ z. values_of (nat_abs z) c.args.positions.now c.args.nonbasic_values.now c.args.values.now) (to_z-of_z w64 c.args.denominator c.ranges.denominator)
