use Rattle.std.proofs.Common.{◌<◌, ◌^◌, ◌∙◌, ap, arith, drop, length, refl, sym, subst, to_z, of_z, w64}
use Rattle.std.specs.Prelude.{nat_abs, IfSome}
use Rattle.tableau.specs.Multipliers.{numbered}
use Rattle.integer_tableau.proofs.FinalEnds.{numbers_where_done}
use Rattle.integer_tableau.proofs.Loops.{back64}
use Rattle.integer_tableau.specs.Combined.{IsCompact, expanded}
use Rattle.integer_tableau.specs.Denominator.{ArePartsOf, HasDenominator}
use Rattle.integer_tableau.specs.IntegerTableau.{IntegerTableau, tableau_of, values_of}
use Rattle.integer_tableau.specs.Kept.{kept_at, tableau_at}
use Rattle.integer_tableau.specs.Positions.{coefficients}
use Rattle.integer_tableau.proofs.final_numbers.numbers_where_done.Goals as goal

pub returns-clause-numbers : goal.returns-clause-numbers
returns-clause-numbers c =
    let a = c.args in
    let n = a.solution.now in
    let d = kept_at a.dictionaries.now.all a.at in
    let w : IntegerTableau = tableau_at d n in
    let small : nat_abs c.number-number.result < 2 ^ 63 = omega (arith, ap nat_abs c.number-number.ensures, c.divisor.result.small) in
    let number = back64 c.number-number.result small ∙ c.number-number.ensures ∙ c.divisor.ensures in
    let costs = c.reduced_costs.ensures.value in
    let parts : ArePartsOf w c.deref-2.result.now c.deref-3.result.now c.deref-4.result.now (to_z w64 (of_z w64 c.number-number.result)) =
    record { positions_are = c.deref-2.ensures.value ∙ c.in_ok-positions.ensures; nonbasic_values_are = c.deref-3.ensures.value; values_are = c.deref-4.ensures.value; denominator_is = ap nat_abs number } in
    numbers_where_done a.numbers.now a.program_rows.now.items.value.items a.weight d n _ c.requires.at_dictionary refl
    (subst (λ ps. IfSome c.common_denominator-denominator.result (λ k. HasDenominator k (tableau_of (length d.rows) a.numbers.now (expanded ps w)))) c.deref.ensures.value
    (c.common_denominator-denominator.ensures n.reach (length d.rows) a.numbers.now w (subst (λ ps. IsCompact ps a.weight n.reach w) (sym c.deref.ensures.value) c.requires.at_dictionary.compact) parts))
    (c.in_ok-point.ensures ∙ (λ i. values_of (nat_abs (number i)) ((c.deref-5.ensures.value ∙ c.in_ok-positions.ensures) i) (c.deref-6.ensures.value i) (c.deref-7.ensures.value i)))
    (c.in_ok-multipliers.ensures ∙ (λ i. numbered a.numbers.now (coefficients (nat_abs (number i)) (drop (length (costs i)) ((c.deref-8.ensures.value ∙ c.in_ok-positions.ensures) i)) (costs i))))
