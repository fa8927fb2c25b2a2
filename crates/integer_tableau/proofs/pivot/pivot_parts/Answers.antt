use Rattle.std.proofs.Common.{◌≡◌, ◌<◌, ◌<ℤ◌, ℤ, arith, ◌+◌, ◌-ℤ◌, ◌*ℤ◌, [], refl, rules, false, length, get_or, set, nat_abs, pos, ap, sym, subst, ◌∙◌, w64, to_z, of_z}
use Rattle.std.specs.Int.{w128}
use mir.Val.{SFits}
use Rattle.std.proofs.lemmas.Int.{to_z-of_z}
use Rattle.std.proofs.lemmas.List.{length-set}
use Rattle.integer_tableau.specs.declared.position.Position.TheVariants.{InBasis, InColumn}
use Rattle.integer_tableau.specs.Combined.{expanded_rows, expanded_values}
use Rattle.integer_tableau.specs.IntegerTableau.{of_parts}
use Rattle.integer_tableau.specs.Numbers.{number_at}
use Rattle.integer_tableau.specs.Range.{size_limit}
use Rattle.integer_tableau.specs.Pivot.{AreSubstitutedValues, IsEliminated, IsPivotOf, IsPivoted}
use Rattle.integer_tableau.proofs.Apart.{apart_after, nonbasic_after}
use Rattle.integer_tableau.proofs.Exchanges.{positions_exchanged}
use Rattle.integer_tableau.specs.Substitution.{quotient_numerator}
use Rattle.integer_tableau.proofs.BasicColumns.{column_there}
use Rattle.integer_tableau.proofs.ListedRows.{after_has_rows, basic_rows, list_after, taken_has_rows}
use Rattle.integer_tableau.specs.BasicColumns.{basic_from, count_below}
use Rattle.integer_tableau.proofs.FromCode.{near_from_code, pivoted_from, positive_from, width_from_code}
use Rattle.integer_tableau.proofs.WaysOut.{none_then}
use Rattle.integer_tableau.proofs.pivot.pivot_parts.Goals as goal

pub returns-in_default-clause-nonbasic : goal.returns-in_default-clause-nonbasic
returns-in_default-clause-nonbasic c = tt

pub returns-in_default-clause-basic : goal.returns-in_default-clause-basic
returns-in_default-clause-basic c = tt

pub returns-in_default-clause-pivoted : goal.returns-in_default-clause-pivoted
returns-in_default-clause-pivoted c = tt

pub leave-requires-clause-leaving_there : goal.leave-requires-clause-leaving_there
leave-requires-clause-leaving_there c = c.requires.leaving_there

pub leave-requires-clause-entering_there : goal.leave-requires-clause-entering_there
leave-requires-clause-entering_there c = c.requires.entering_there

pub leave-requires-clause-bounds_there : goal.leave-requires-clause-bounds_there
leave-requires-clause-bounds_there c = c.requires.bounds_there

pub leave-requires-clause-nonbasic_values_there : goal.leave-requires-clause-nonbasic_values_there
leave-requires-clause-nonbasic_values_there c = c.requires.nonbasic_values_there

pub leave-requires-clause-positions_there : goal.leave-requires-clause-positions_there
leave-requires-clause-positions_there c = c.requires.positions_there

pub leave-requires-clause-values_there : goal.leave-requires-clause-values_there
leave-requires-clause-values_there c = c.requires.values_there

pub returns-in_err-value-clause-nonbasic : goal.returns-in_err-value-clause-nonbasic
returns-in_err-value-clause-nonbasic c = none_then c.from_residual.result _ c.from_residual.ensures

pub returns-in_err-value-clause-basic : goal.returns-in_err-value-clause-basic
returns-in_err-value-clause-basic c = none_then c.from_residual.result _ c.from_residual.ensures

pub returns-in_err-value-clause-pivoted : goal.returns-in_err-value-clause-pivoted
returns-in_err-value-clause-pivoted c = none_then c.from_residual.result _ c.from_residual.ensures

pub exchange_numbers-requires-clause-positive : goal.exchange_numbers-requires-clause-positive
exchange_numbers-requires-clause-positive c = subst (λ (z : ℤ). pos 0 <ℤ z) (sym (to_z-of_z w64 c.args.denominator c.ranges.denominator)) c.requires.positive

pub exchange_numbers-requires-clause-values_there : goal.exchange_numbers-requires-clause-values_there
exchange_numbers-requires-clause-values_there c = omega (arith, c.requires.values_there, c.leave.auto.rows)

pub exchange_numbers-requires-clause-coefficient : goal.exchange_numbers-requires-clause-coefficient
exchange_numbers-requires-clause-coefficient c = c.in_ok-value.ensures.there.coefficient

pub returns-then-not-exchange_numbers-clause-nonbasic : goal.returns-then-not-exchange_numbers-clause-nonbasic
returns-then-not-exchange_numbers-clause-nonbasic c = tt

pub returns-then-not-exchange_numbers-clause-basic : goal.returns-then-not-exchange_numbers-clause-basic
returns-then-not-exchange_numbers-clause-basic c = tt

pub returns-then-not-exchange_numbers-clause-pivoted : goal.returns-then-not-exchange_numbers-clause-pivoted
returns-then-not-exchange_numbers-clause-pivoted c = tt

pub returns-then-not-exchange_columns-clause-nonbasic : goal.returns-then-not-exchange_columns-clause-nonbasic
returns-then-not-exchange_columns-clause-nonbasic c = tt

pub returns-then-not-exchange_columns-clause-basic : goal.returns-then-not-exchange_columns-clause-basic
returns-then-not-exchange_columns-clause-basic c = tt

pub returns-then-not-exchange_columns-clause-pivoted : goal.returns-then-not-exchange_columns-clause-pivoted
returns-then-not-exchange_columns-clause-pivoted c = tt

pub returns-then-not-is_near-clause-nonbasic : goal.returns-then-not-is_near-clause-nonbasic
returns-then-not-is_near-clause-nonbasic c = tt

pub returns-then-not-is_near-clause-basic : goal.returns-then-not-is_near-clause-basic
returns-then-not-is_near-clause-basic c = tt

pub returns-then-not-is_near-clause-pivoted : goal.returns-then-not-is_near-clause-pivoted
returns-then-not-is_near-clause-pivoted c = tt

pub are_combinations_small-requires-clause-full : goal.are_combinations_small-requires-clause-full
are_combinations_small-requires-clause-full c = λ i l. c.requires.compact.full i l ∙ sym (c.exchange_numbers.auto.rows ∙ c.leave.auto.rows)

pub are_combinations_small-requires-clause-weights : goal.are_combinations_small-requires-clause-weights
are_combinations_small-requires-clause-weights c = c.requires.compact.weights

pub are_combinations_small-requires-clause-light : goal.are_combinations_small-requires-clause-light
are_combinations_small-requires-clause-light c = c.requires.compact.light

pub leave-requires-clause-near : goal.leave-requires-clause-near
leave-requires-clause-near c = near_from_code _ _ _ _ c.requires.compact c.args.nonbasic_values.now c.args.values.now _ refl refl (ap nat_abs (to_z-of_z w64 c.args.denominator c.ranges.denominator))

pub leave-requires-clause-full : goal.leave-requires-clause-full
leave-requires-clause-full c = c.requires.compact.full

pub leave-requires-clause-light : goal.leave-requires-clause-light
leave-requires-clause-light c = λ i l. omega (arith, c.requires.compact.weights i l, c.requires.compact.light)

pub leave-requires-clause-positive : goal.leave-requires-clause-positive
leave-requires-clause-positive c = subst (λ (z : ℤ). pos 0 <ℤ z) (sym (to_z-of_z w64 c.args.denominator c.ranges.denominator)) c.requires.positive

pub leave-requires-clause-basic : goal.leave-requires-clause-basic
leave-requires-clause-basic c = c.in-InBasis.is

pub exchange_numbers-requires-clause-small : goal.exchange_numbers-requires-clause-small
exchange_numbers-requires-clause-small c = subst (λ (z : ℤ). nat_abs z < size_limit) (sym (to_z-of_z w64 c.args.denominator c.ranges.denominator)) c.requires.compact.consistent.denominator_small

pub exchange_numbers-requires-clause-width : goal.exchange_numbers-requires-clause-width
exchange_numbers-requires-clause-width c =
    ap length c.in_ok-value.ensures.row
    ∙ width_from_code _ _ _ _ c.requires.compact c.args.program_rows.now c.args.positions.now c.args.rows.now _ (length c.args.reduced_costs.now) c.args.leaving refl refl refl
    (ap nat_abs (to_z-of_z w64 c.args.denominator c.ranges.denominator)) c.requires.compact.costs c.requires.leaving_there c.in-InBasis.is

pub exchange_numbers-requires-clause-pivot : goal.exchange_numbers-requires-clause-pivot
exchange_numbers-requires-clause-pivot c = c.in_ok-value.ensures.pivot

pub exchange_numbers-requires-clause-size : goal.exchange_numbers-requires-clause-size
exchange_numbers-requires-clause-size c = c.in_ok-value.ensures.size

pub exchange_numbers-requires-clause-column : goal.exchange_numbers-requires-clause-column
exchange_numbers-requires-clause-column c = c.requires.compact.consistent.within c.args.entering c.in_ok-value.exchange.column c.in_ok-value.ensures.there.entering

pub exchange_numbers-requires-clause-listed : goal.exchange_numbers-requires-clause-listed
exchange_numbers-requires-clause-listed c =
    taken_has_rows c.args.leaving c.args.positions.now c.args.rows.now c.leave.new.rows c.args.basic_columns.now.items _ c.deref.ensures.value c.requires.basic_are c.in_ok-value.ensures.rows
    (omega (arith, c.requires.positions_there)) (basic_rows _ _ _ _ c.requires.compact)

pub exchange_columns-requires : goal.exchange_columns-requires
exchange_columns-requires c = λ l.
    let n = length c.args.rows.now in
    let r = c.args.leaving in
    let ss = c.args.positions.now in
    let q : 0 + r ≡ r = omega arith in
    let many : length c.exchange_numbers.new.rows ≡ n = c.exchange_numbers.auto.rows ∙ c.leave.auto.rows in
    subst (λ js. count_below r js < length js) (sym c.requires.basic_are)
    (subst (λ x. count_below x (basic_from 0 n ss) < length (basic_from 0 n ss)) q (column_there 0 n r ss (omega (arith, l, many)) c.requires.leaving_there c.in_ok-value.ensures.there.leaving))

pub are_combinations_small-requires-clause-positions_there : goal.are_combinations_small-requires-clause-positions_there
are_combinations_small-requires-clause-positions_there c =
    let many = c.exchange_numbers.auto.rows ∙ c.leave.auto.rows in
    let ss = c.args.positions.now in
    let k = c.in_ok-value.exchange.column in
    length-set (set ss c.args.leaving (InColumn k)) c.args.entering InBasis ∙ length-set ss c.args.leaving (InColumn k) ∙ c.requires.positions_there ∙ ap (λ n. n + length c.args.program_rows.now) (sym many)

pub are_combinations_small-requires-clause-positive : goal.are_combinations_small-requires-clause-positive
are_combinations_small-requires-clause-positive c =
    let x = c.in_ok-value.exchange in
    let fs : SFits w64 x.size = search rules in
    positive_from _ _ (to_z-of_z w64 x.size fs ∙ c.in_ok-value.ensures.size) c.in_ok-value.ensures.there.coefficient

pub are_combinations_small-requires-clause-listed : goal.are_combinations_small-requires-clause-listed
are_combinations_small-requires-clause-listed c =
    let a = c.args in
    let there = c.in_ok-value.ensures.there in
    let h = c.if-not-exchange_numbers.ensures.rows refl in
    let many : length c.exchange_numbers.new.rows ≡ length a.rows.now = c.exchange_numbers.auto.rows ∙ c.leave.auto.rows in
    after_has_rows a.leaving a.entering c.in_ok-value.exchange.column _ _ a.positions.now _ h.0 a.rows.now c.leave.new.rows c.exchange_numbers.new.rows _ _ _ c.requires.entering_there
    c.in_ok-value.ensures.rows h.1 (omega (arith, c.requires.positions_there)) (basic_rows _ _ _ _ c.requires.compact)
    (c.deref-else-not-is_near.ensures.value
    ∙ list_after (length a.rows.now) _ a.leaving a.entering c.in_ok-value.exchange.column a.positions.now a.basic_columns.now.items c.exchange_columns.new.basic_columns.items
    c.requires.basic_are (c.if-not-exchange_columns.ensures refl) many (omega (arith, c.requires.positions_there)) c.requires.leaving_there c.requires.entering_there there.leaving there.entering)

pub returns-clause-basic : goal.returns-clause-basic
returns-clause-basic c =
    let a = c.args in
    let there = c.in_ok-value.ensures.there in
    let many : length c.exchange_numbers.new.rows ≡ length a.rows.now = c.exchange_numbers.auto.rows ∙ c.leave.auto.rows in
    list_after (length a.rows.now) _ a.leaving a.entering c.in_ok-value.exchange.column a.positions.now a.basic_columns.now.items c.exchange_columns.new.basic_columns.items
    c.requires.basic_are (c.if-not-exchange_columns.ensures refl) many (omega (arith, c.requires.positions_there)) c.requires.leaving_there c.requires.entering_there there.leaving there.entering
    ∙ ap (λ n. basic_from 0 n (positions_exchanged a.leaving a.entering c.in_ok-value.exchange.column a.positions.now)) (sym many ∙ sym c.are_combinations_small.auto.rows)

pub are_combinations_small-requires-clause-apart : goal.are_combinations_small-requires-clause-apart
are_combinations_small-requires-clause-apart c =
    let there = c.in_ok-value.ensures.there in
    apart_after c.args.positions.now c.args.leaving c.args.entering c.in_ok-value.exchange.column there.entering there.leaving c.requires.entering_there c.requires.leaving_there
    c.requires.compact.consistent.alone

pub returns-clause-nonbasic : goal.returns-clause-nonbasic
returns-clause-nonbasic c =
    let there = c.in_ok-value.ensures.there in
    nonbasic_after c.args.positions.now c.args.leaving c.args.entering c.in_ok-value.exchange.column there.entering there.leaving c.requires.entering_there c.requires.leaving_there
    c.args.nonbasic.now c.requires.nonbasic_are

pub bounds-nonbasic-exchange : goal.bounds-nonbasic-exchange
bounds-nonbasic-exchange c = (c.requires.nonbasic_are.all c.args.entering c.in_ok-value.exchange.column c.in_ok-value.ensures.there.entering).0

pub offset_bounds-nonbasic-exchange : goal.offset_bounds-nonbasic-exchange
offset_bounds-nonbasic-exchange c =
    let l = (c.requires.nonbasic_are.all c.args.entering c.in_ok-value.exchange.column c.in_ok-value.ensures.there.entering).0 in
    search rules

pub returns-clause-pivoted : goal.returns-clause-pivoted
returns-clause-pivoted c =
    let a = c.args in
    let x = c.in_ok-value.exchange in
    let n = c.exchange_numbers.new in
    let fs : SFits w64 x.size = search rules in
    let fb : SFits w64 x.bound = search rules in
    let fl : SFits w64 (number_at a.nonbasic_values.now a.entering) = search rules in
    let fv : SFits w128 c.in_ok-value.value = search rules in
    let d = to_z-of_z w64 a.denominator c.ranges.denominator in
    let s = to_z-of_z w64 x.size fs in
    let b = to_z-of_z w64 x.bound fb in
    let left = to_z-of_z w64 (number_at a.nonbasic_values.now a.entering) fl in
    let v = to_z w128 (of_z w128 c.in_ok-value.value) in
    let same = to_z-of_z w128 c.in_ok-value.value fv in
    let e = to_z w64 (of_z w64 x.size) in
    let row = c.leave.new.leaving_row in
    let taken = c.leave.new.rows in
    let row_is = c.in_ok-value.ensures.row ∙ ap (λ z. get_or (expanded_rows (nat_abs z) a.program_rows.now a.positions.now a.rows.now) a.leaving []) d in
    let value_is = same ∙ c.in_ok-value.ensures.value ∙ ap (λ z. number_at (expanded_values (nat_abs z) a.program_rows.now a.positions.now a.nonbasic_values.now a.values.now) a.leaving) d in
    let p = subst (λ z. IsPivotOf a.bounds.now a.positions.now row v (nat_abs z) a.leaving a.entering x.column x.direction x.bound) d
    (subst (λ v. IsPivotOf a.bounds.now a.positions.now row v (nat_abs (to_z w64 (of_z w64 a.denominator))) a.leaving a.entering x.column x.direction x.bound) (sym same) c.in_ok-value.ensures.there) in
    let e_is = s ∙ c.in_ok-value.ensures.size in
    let h = c.if-not-exchange_numbers.ensures.rows refl in
    let ex = subst (λ (T : Type 0). T) (λ i. IsEliminated a.entering x.column (nat_abs (d i)) (nat_abs (sym s i)) row h.0 taken n.rows a.reduced_costs.now n.reduced_costs) h.1 in
    let vs = subst (λ (T : Type 0). T) (λ i. AreSubstitutedValues a.entering x.column (d i) (sym s i) (left i) (quotient_numerator x.pivot (v -ℤ x.pivot *ℤ left i -ℤ d i *ℤ x.bound)) (length a.reduced_costs.now) taken a.values.now n.values)
    (c.if-not-exchange_numbers.ensures.values refl) in (
      subst (λ rows. IsPivoted a.program_rows.now a.weight a.reach a.leaving a.entering
          (of_parts a.bounds.now a.positions.now a.at_upper.now a.nonbasic_values.now a.rows.now a.reduced_costs.now a.values.now a.denominator a.pivots)
          (of_parts a.bounds.now (positions_exchanged a.leaving a.entering x.column a.positions.now) (set (set a.at_upper.now a.leaving c.is_upper.result) a.entering false)
          (set (set a.nonbasic_values.now a.leaving (to_z w64 (of_z w64 x.bound))) a.entering (pos 0)) rows n.reduced_costs n.values e (a.pivots + 1))) (sym c.are_combinations_small.ensures.same)
          (pivoted_from a.program_rows.now a.weight a.reach a.bounds.now a.positions.now a.at_upper.now a.nonbasic_values.now a.rows.now a.reduced_costs.now a.values.now a.denominator a.pivots a.leaving a.entering
          x.column x.direction x.bound x.pivot v c.is_upper.result e row taken n.rows (set (set a.nonbasic_values.now a.leaving (to_z w64 (of_z w64 x.bound))) a.entering (pos 0)) n.reduced_costs n.values
          c.requires.compact c.requires.positive c.requires.leaving_there c.requires.entering_there row_is value_is c.in_ok-value.ensures.rows p c.in_ok-value.ensures.pivot e_is (h.0, ex) vs
          (ap (λ b. set (set a.nonbasic_values.now a.leaving b) a.entering (pos 0)) b) c.is_upper.ensures (c.if-not-is_near.ensures refl) (c.if-not-are_combinations_small.ensures.small refl)),
      positive_from _ _ e_is p.coefficient,
    )

pub leave-requires-clause-made : goal.leave-requires-clause-made
leave-requires-clause-made c = λ l.
    c.requires.made l
    ∙ ap (λ z. get_or (expanded_rows (nat_abs z) c.args.program_rows.now c.args.positions.now c.args.rows.now) c.args.leaving []) (sym (to_z-of_z w64 c.args.denominator c.ranges.denominator))

pub returns-in_default-clause-exchanged : goal.returns-in_default-clause-exchanged
returns-in_default-clause-exchanged c = tt

pub returns-in_err-value-clause-exchanged : goal.returns-in_err-value-clause-exchanged
returns-in_err-value-clause-exchanged c = none_then c.from_residual.result _ c.from_residual.ensures

pub returns-then-not-exchange_numbers-clause-exchanged : goal.returns-then-not-exchange_numbers-clause-exchanged
returns-then-not-exchange_numbers-clause-exchanged c = tt

pub returns-then-not-exchange_columns-clause-exchanged : goal.returns-then-not-exchange_columns-clause-exchanged
returns-then-not-exchange_columns-clause-exchanged c = tt

pub returns-then-not-is_near-clause-exchanged : goal.returns-then-not-is_near-clause-exchanged
returns-then-not-is_near-clause-exchanged c = tt

pub returns-clause-exchanged : goal.returns-clause-exchanged
returns-clause-exchanged c = record {
  column = c.in_ok-value.exchange.column;
  bound = to_z w64 (of_z w64 c.in_ok-value.exchange.bound);
  leaving = c.in_ok-value.ensures.there.leaving;
  entering = c.in_ok-value.ensures.there.entering;
  positions = refl;
  values = refl;
}
