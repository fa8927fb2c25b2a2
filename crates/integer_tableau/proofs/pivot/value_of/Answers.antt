use Rattle.std.proofs.Common.{◌≡◌, ◌+◌, ◌<◌, ◌-◌, ◌*◌, ◌^◌, ◌∙◌, [], ℤ, List, nat_abs, get_or, length, arith, ap, rules, sym, subst, w64}
use mir.Val.{SFits}
use Rattle.std.specs.Int.{w128}
use Rattle.std.proofs.lemmas.Int.{to_z-of_z}
use Rattle.std.proofs.lemmas.List.{get_or_default}
use Rattle.integer_tableau.proofs.Expanded.{value_of_column, value_of_row}
use Rattle.integer_tableau.proofs.Lists.{size_is}
use Rattle.integer_tableau.specs.Combined.{combined_value, expanded_values}
use Rattle.integer_tableau.specs.Numbers.{number_at, total_size}
use Rattle.integer_tableau.specs.Range.{size_limit}
use Rattle.integer_tableau.proofs.pivot.value_of.Goals as goal

pub combined_value-requires : goal.combined_value-requires
combined_value-requires c =
    let i = c.args.variable - length c.args.values.now in
    let rows = c.args.program_rows.now in
    let row = c.index-program_rows-variable.result in
    let there : i < length rows = omega (arith, c.requires.positions_there, c.requires.variable_there, c.if-variable-values.false) in
    let same : row ≡ get_or rows i [] = c.index-program_rows-variable.is ∙ get_or_default rows i row [] there in
    let wide : length row ≡ length c.args.values.now = ap length same ∙ c.requires.full i there in
    record {
      values_there = sym wide;
      positions_there = omega (arith, wide, c.requires.positions_there);
      nonbasic_values_there = omega (arith, wide, c.requires.positions_there, c.requires.nonbasic_values_there);
      light = subst (λ (r : List ℤ). total_size r < size_limit) (sym same) (c.requires.light i there);
      near = λ j l. subst (λ (z : ℤ). nat_abs (number_at c.args.nonbasic_values.now j) * nat_abs z < 2 ^ 63) (sym (to_z-of_z w64 c.args.denominator c.ranges.denominator)) (c.requires.near j (omega (arith, l, wide)));
    }

pub returns-then-variable-values : goal.returns-then-variable-values
returns-then-variable-values c =
    let a = c.args in
    let v = a.variable in
    let f : SFits w128 c.from.result = record { sfits = c.from.type_inv } in
    let g : SFits w64 (number_at a.values.now v) = search rules in
    to_z-of_z w128 c.from.result f ∙ c.from.ensures ∙ to_z-of_z w64 (number_at a.values.now v) g
    ∙ sym (value_of_column (nat_abs a.denominator) a.program_rows.now a.positions.now a.nonbasic_values.now a.values.now v c.if-variable-values.true)

pub returns-else-variable-values : goal.returns-else-variable-values
returns-else-variable-values c =
    let a = c.args in
    let ps = a.program_rows.now in
    let ss = a.positions.now in
    let xs = a.nonbasic_values.now in
    let vs = a.values.now in
    let i = a.variable - length vs in
    let row = c.index-program_rows-variable in
    let there : i < length ps = omega (arith, c.requires.positions_there, c.requires.variable_there, c.if-variable-values.false) in
    let f : SFits w128 c.combined_value.result = record { sfits = c.combined_value.type_inv } in
    let d = to_z-of_z w64 a.denominator c.ranges.denominator ∙ size_is a.denominator c.requires.positive in
    let same : row.result ≡ get_or ps i [] = row.is ∙ get_or_default ps i row.result [] there in
    let back : length vs + i ≡ a.variable = omega (arith, c.if-variable-values.false) in
    to_z-of_z w128 c.combined_value.result f ∙ c.combined_value.ensures ∙ (λ t. combined_value (d t) (same t) ss xs vs)
    ∙ sym (value_of_row (nat_abs a.denominator) ps ss xs vs i there) ∙ ap (number_at (expanded_values (nat_abs a.denominator) ps ss xs vs)) back
