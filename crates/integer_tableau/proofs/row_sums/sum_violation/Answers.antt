use Rattle.std.proofs.Common.{ℤ, ◌<◌, ◌+◌, ◌+ℤ◌, ◌*ℤ◌, [], None, get_or, ap, arith, length, nat_abs, rules, sym, subst, ◌∙◌, w64}
use Rattle.std.specs.Int.{w128, int_wrap}
use mir.Val.{SFits}
use Rattle.std.proofs.lemmas.Int.{to_z-of_z, int_wrap_fits}
use Rattle.integer_tableau.proofs.BasicColumns.{column_within}
use Rattle.integer_tableau.proofs.Lists.{size_is}
use Rattle.integer_tableau.proofs.RowSums.{value_exact}
use Rattle.integer_tableau.specs.Combined.{combined_value}
use Rattle.integer_tableau.specs.Leaving.{violation_at}
use Rattle.integer_tableau.specs.RowSums.{basic_products}
use Rattle.integer_tableau.proofs.row_sums.sum_violation.Goals as goal

pub row_value-value-requires-clause-basic_there : goal.row_value-value-requires-clause-basic_there
row_value-value-requires-clause-basic_there c = λ p l.
    let n = length c.args.values.now in
    subst (λ js. p < length js → get_or js p 0 < n) (sym c.requires.basic) (λ l. omega (arith, column_within 0 n c.args.positions.now p l)) l

pub returns-in-InBasis : goal.returns-in-InBasis
returns-in-InBasis c = λ ps reach xs sums columns summed is l.
    let ss = c.args.positions.now in
    let vs = c.args.values.now in
    let js = c.args.basic_columns.now in
    let cs = get_or ps c.args.row [] in
    let v = length vs + c.args.row in
    let b = get_or c.args.bounds.now v (record { lower = None; upper = None }) in
    let d = to_z-of_z w64 c.args.denominator c.ranges.denominator in
    let there : c.args.row < length ps = omega (arith, c.requires.there, columns.as_many) in
    let f : SFits w64 c.row_value-value.result = search rules in
    let g : SFits w128 c.from.result = search rules in
    let low = c.row_value-value.ensures ps columns ∙ (λ t. int_wrap w64 (d t *ℤ to_z-of_z w64 c.args.sum c.ranges.sum t +ℤ basic_products cs vs js)) in
    let value = to_z-of_z w128 c.from.result g ∙ c.from.ensures ∙ to_z-of_z w64 c.row_value-value.result f
    ∙ value_exact ps c.args.columns.now.weight reach ss xs sums vs js c.args.denominator summed columns.weights c.requires.basic (omega (arith, c.requires.positions_there)) c.args.row c.row_value-value.result c.args.sum
    there l (columns.full c.args.row there ∙ sym c.requires.values_there) is (int_wrap_fits w64 c.row_value-value.result f) low
    ∙ ap (λ (z : ℤ). combined_value z cs ss xs vs) (size_is c.args.denominator c.requires.positive) in
    c.violation.ensures ∙ (λ t. violation_at (nat_abs (d t)) (sym c.in-InBasis.is t) b (value t))
