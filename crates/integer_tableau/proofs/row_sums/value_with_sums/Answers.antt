use Rattle.std.proofs.Common.{◌≡◌, ◌<◌, ◌+◌, ◌-◌, ◌+ℤ◌, ◌*ℤ◌, ℤ, [], get_or, ap, arith, length, nat_abs, refl, rules, sym, subst, ◌∙◌, w64}
use Rattle.std.specs.Prelude.{IfSome}
use Rattle.std.specs.Int.{w128, int_wrap}
use mir.Val.{SFits}
use Rattle.std.proofs.lemmas.Int.{to_z-of_z, int_wrap_fits}
use Rattle.integer_tableau.proofs.BasicColumns.{column_within}
use Rattle.integer_tableau.proofs.Expanded.{value_of_row}
use Rattle.integer_tableau.proofs.Lists.{size_is}
use Rattle.integer_tableau.proofs.RowSums.{value_exact}
use Rattle.integer_tableau.specs.Combined.{combined_value, expanded_values}
use Rattle.integer_tableau.specs.Numbers.{number_at}
use Rattle.integer_tableau.specs.RowSums.{AreColumnsOf, AreSummed, IsNarrow, basic_products}
use Rattle.integer_tableau.proofs.row_sums.value_with_sums.Goals as goal

pub are_of_use-requires : goal.are_of_use-requires
are_of_use-requires c = λ p l.
    let n = length c.args.values.now in
    subst (λ js. p < length js → get_or js p 0 < n) (sym c.requires.basic) (λ l. omega (arith, column_within 0 n c.args.positions.now p l)) l

pub row_value-value-requires-clause-basic_there : goal.row_value-value-requires-clause-basic_there
row_value-value-requires-clause-basic_there c = λ p l.
    let n = length c.args.values.now in
    subst (λ js. p < length js → get_or js p 0 < n) (sym c.requires.basic) (λ l. omega (arith, column_within 0 n c.args.positions.now p l)) l

pub returns-then-are_of_use : goal.returns-then-are_of_use
returns-then-are_of_use c =
    let ps = c.args.program_rows.now in
    let ss = c.args.positions.now in
    let xs = c.args.nonbasic_values.now in
    let vs = c.args.values.now in
    let js = c.args.basic_columns.now in
    let row = c.args.variable - length vs in
    let cs = get_or ps row [] in
    let sum = number_at c.args.row_sums.now row in
    let columns : AreColumnsOf ps c.in-Some.columns = subst (λ o. IfSome o (AreColumnsOf ps)) c.in-Some.is c.requires.columns in
    let variable : c.args.variable ≡ length vs + row = omega (arith, c.if-variable-values.false) in
    let there : row < length ps = omega (arith, c.requires.positions_there, c.requires.variable_there, c.if-variable-values.false) in
    let d = to_z-of_z w64 c.args.denominator c.ranges.denominator in
    let sums_there : row < length c.args.row_sums.now = omega (arith, there, columns.as_many, c.if-are_of_use.ensures.sums refl) in
    let e : SFits w64 sum = search rules in
    let f : SFits w64 c.row_value-value.result = search rules in
    let g : SFits w128 c.from-then-are_of_use.result = search rules in
    let summed : AreSummed ps c.in-Some.columns.weight c.args.reach ss xs c.args.row_sums.now vs js c.args.denominator = record {
      sums_are = c.requires.sums;
      many = omega (arith, c.requires.positions_there, c.requires.nonbasic_values_there);
      bounded = c.requires.bounded;
      narrow = subst (λ z. IsNarrow c.in-Some.columns.weight c.args.reach z js vs) d (c.if-are_of_use.ensures.narrow refl);
    } in
    let low : int_wrap w64 c.row_value-value.result ≡ int_wrap w64 (c.args.denominator *ℤ sum +ℤ basic_products cs vs js) =
    c.row_value-value.ensures ps columns ∙ (λ t. int_wrap w64 (d t *ℤ to_z-of_z w64 sum e t +ℤ basic_products cs vs js)) in
    let value = to_z-of_z w128 c.from-then-are_of_use.result g ∙ c.from-then-are_of_use.ensures ∙ to_z-of_z w64 c.row_value-value.result f
    ∙ value_exact ps c.in-Some.columns.weight c.args.reach ss xs c.args.row_sums.now vs js c.args.denominator summed columns.weights c.requires.basic (omega (arith, c.requires.positions_there)) row
    c.row_value-value.result sum there sums_there (c.requires.full row there) refl (int_wrap_fits w64 c.row_value-value.result f) low
    ∙ ap (λ (z : ℤ). combined_value z cs ss xs vs) (size_is c.args.denominator c.requires.positive) in
    value ∙ sym (ap (number_at (expanded_values (nat_abs c.args.denominator) ps ss xs vs)) variable ∙ value_of_row (nat_abs c.args.denominator) ps ss xs vs row there)
