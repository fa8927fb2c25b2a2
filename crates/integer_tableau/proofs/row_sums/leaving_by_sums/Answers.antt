use Rattle.std.proofs.Common.{ℤ, ◌+◌, ap, arith, drop, length, map, nat_abs, pos, rules, sym, subst, ◌∙◌, w64, to_z, of_z}
use mir.Val.{SFits}
use Rattle.std.proofs.lemmas.Int.{to_z-of_z}
use Rattle.integer_tableau.proofs.RowSums.{by_rows, row_passed, rows_passed}
use Rattle.integer_tableau.proofs.Violations.{found_in_rows}
use Rattle.integer_tableau.specs.Combined.{combined_value}
use Rattle.integer_tableau.specs.Leaving.{leaving_by_numerators}
use Rattle.integer_tableau.specs.Numbers.{number_at}
use Rattle.integer_tableau.specs.RowSums.{AreSummed}
use Rattle.integer_tableau.proofs.row_sums.leaving_by_sums.Goals as goal

pub loop-row-preserved : goal.loop-row-preserved
loop-row-preserved c = λ ps reach xs are summed.
    let d = to_z w64 (of_z w64 c.args.denominator) in
    let ss = c.args.positions.now in
    let vs = c.args.values.now in
    let row = c.loop-row.row in
    let f : SFits w64 (number_at c.args.row_sums.now row) = search rules in
    row_passed (λ a. combined_value (pos (nat_abs d)) a ss xs vs) (nat_abs d) (length vs) ss c.args.bounds.now ps row _
    (omega (arith, c.requires.positions_there, c.requires.sums_there, c.loop-row-test.true)) (omega (arith, c.requires.positions_there, c.requires.bounds_there, c.requires.sums_there, c.loop-row-test.true))
    (omega (arith, c.requires.sums_there, are.as_many, c.loop-row-test.true))
    (sym c.in_default.is ∙ c.sum_violation.ensures ps reach xs c.args.row_sums.now are summed (to_z-of_z w64 (number_at c.args.row_sums.now row) f) c.loop-row-test.true)
    (c.loop-row.invariant ps reach xs are summed)

pub returns-in-Some-clause-value : goal.returns-in-Some-clause-value
returns-in-Some-clause-value c = λ ps reach xs are summed none.
    let n = length c.args.values.now in
    let d = to_z w64 (of_z w64 c.args.denominator) in
    let back = to_z-of_z w64 c.args.denominator c.ranges.denominator in
    let ss = c.args.positions.now in
    let bs = c.args.bounds.now in
    let vs = c.args.values.now in
    let row = c.loop-row.row in
    let f : SFits w64 (number_at c.args.row_sums.now row) = search rules in
    let before = subst (λ z. AreSummed ps c.args.columns.now.weight reach ss xs c.args.row_sums.now vs c.args.basic_columns.now z) (sym back) summed in
    found_in_rows (λ a. combined_value (pos (nat_abs d)) a ss xs vs) (nat_abs d) (n + row) (n + row) row ss bs ps c.in-Some.direction _
    (omega (arith, c.requires.positions_there, c.requires.sums_there, c.loop-row-test.true)) (omega (arith, c.requires.positions_there, c.requires.bounds_there, c.requires.sums_there, c.loop-row-test.true))
    (omega (arith, c.requires.sums_there, are.as_many, c.loop-row-test.true))
    (c.in-Some.ensures ps reach xs c.args.row_sums.now are before (to_z-of_z w64 (number_at c.args.row_sums.now row) f) c.loop-row-test.true)
    (c.loop-row.invariant ps reach xs are before)
    ∙ ap (λ (z : ℤ). leaving_by_numerators (nat_abs z) n (drop n ss) (drop n bs) (map (λ a. combined_value (pos (nat_abs z)) a ss xs vs) ps)) back
    ∙ by_rows (λ a. combined_value (pos (nat_abs c.args.denominator)) a ss xs vs) (nat_abs c.args.denominator) n ss bs ps vs (λ i. n)
    (omega (arith, c.requires.positions_there)) (omega (arith, c.requires.positions_there, c.requires.bounds_there)) none

pub returns-clause-value : goal.returns-clause-value
returns-clause-value c = λ ps reach xs are summed none.
    let n = length c.args.values.now in
    let d = to_z w64 (of_z w64 c.args.denominator) in
    let back = to_z-of_z w64 c.args.denominator c.ranges.denominator in
    let ss = c.args.positions.now in
    let bs = c.args.bounds.now in
    let vs = c.args.values.now in
    let before = subst (λ z. AreSummed ps c.args.columns.now.weight reach ss xs c.args.row_sums.now vs c.args.basic_columns.now z) (sym back) summed in
    rows_passed (λ a. combined_value (pos (nat_abs d)) a ss xs vs) (nat_abs d) n ss bs ps c.loop-row.row _ (omega (arith, c.requires.sums_there, are.as_many, c.loop-row-test.false))
    (c.loop-row.invariant ps reach xs are before)
    ∙ ap (λ (z : ℤ). leaving_by_numerators (nat_abs z) n (drop n ss) (drop n bs) (map (λ a. combined_value (pos (nat_abs z)) a ss xs vs) ps)) back
    ∙ by_rows (λ a. combined_value (pos (nat_abs c.args.denominator)) a ss xs vs) (nat_abs c.args.denominator) n ss bs ps vs (λ i. n)
    (omega (arith, c.requires.positions_there)) (omega (arith, c.requires.positions_there, c.requires.bounds_there)) none
