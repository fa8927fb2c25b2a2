use Rattle.std.proofs.Common.{◌≡◌, ◌≤◌, ◌+◌, [], get_or, length, nat_abs, below_more, w64, to_z, of_z, ℕ, ℤ, List, subst, ◌∙◌, arith, rules}
use mir.Val.{SFits}
use Rattle.std.specs.Int.{w128}
use Rattle.std.proofs.lemmas.Int.{to_z-of_z}
use Rattle.std.proofs.lemmas.List.{get_or_default}
use Rattle.integer_tableau.specs.Combined.{combined_value, value_numerator}
use Rattle.integer_tableau.specs.Numbers.{number_at}
use Rattle.integer_tableau.specs.Range.{size_limit}
use Rattle.integer_tableau.specs.declared.position.Position.TheVariants.{InBasis}
use Rattle.integer_tableau.proofs.denominator.are_rows_small_by_look.Goals as goal

pub loop-i-preserved : goal.loop-i-preserved
loop-i-preserved c =
    let d = to_z w64 (of_z w64 c.args.denominator) in
    let n = length c.args.values.now in
    let P = λ (j : ℕ). nat_abs (value_numerator d (get_or c.args.positions.now (n + j) InBasis) (number_at c.args.nonbasic_values.now (n + j)) (combined_value d (get_or c.args.program_rows.now j []) c.args.positions.now c.args.nonbasic_values.now c.args.values.now)) ≤ size_limit in
    let v = n + c.loop-i.i in
    let x = number_at c.args.nonbasic_values.now v in
    let y = c.row_value-numerator.result in
    let fx : SFits w64 x = search rules in
    let fy : SFits w128 y = search rules in
    let at = λ (x : ℤ) (row : List ℤ). value_numerator d (get_or c.args.positions.now v InBasis) x (combined_value d row c.args.positions.now c.args.nonbasic_values.now c.args.values.now) in
    let row = get_or c.args.program_rows.now c.loop-i.i [] in
    let is : to_z w128 (of_z w128 y) ≡ at x row = to_z-of_z w128 y fy ∙ c.row_value-numerator.ensures ∙ (λ i. at (to_z-of_z w64 x fx i) ((c.index-program_rows-i.is ∙ get_or_default c.args.program_rows.now c.loop-i.i c.index-program_rows-i.result [] c.loop-i-test.true) i)) in
    below_more P c.loop-i.i c.loop-i.invariant (subst (λ z. nat_abs z ≤ size_limit) is (omega (arith, c.unsigned_abs.ensures.value, c.if-unsigned_abs-from.false, c.from.ensures)))
