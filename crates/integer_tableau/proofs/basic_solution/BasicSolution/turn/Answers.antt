use Rattle.std.proofs.Common.{◌≡◌, ◌<◌, ◌*◌, ◌^◌, ◌-ℤ◌, ◌*ℤ◌, ◌<ℤ◌, ℕ, ◌++◌, length, get_or, set, take, drop, map, arith, rules, refl, pos, nat_abs, ap, sym, subst, ◌∙◌, w64, to_z, of_z}
use Rattle.std.specs.Int.{w128}
use mir.Val.{SFits}
use Rattle.std.proofs.lemmas.Int.{to_z-of_z}
use Rattle.std.proofs.lemmas.Bool.{false≢true}
use Rattle.std.proofs.lemmas.List.{get_or-map, get_or_default}
use Rattle.fraction.specs.Rational.{whole}
use Rattle.tableau.specs.Leaving.{unbounded, violated_bound}
use Rattle.integer_tableau.proofs.Arenas.{rows_many}
use Rattle.integer_tableau.proofs.BasicColumns.{column_within, columns_rise}
use Rattle.integer_tableau.proofs.FromCode.{near_from_code}
use Rattle.integer_tableau.proofs.Lists.{size_is}
use Rattle.integer_tableau.proofs.RowSums.{in_some_column}
use Rattle.integer_tableau.proofs.SameBasis.{same_basic, same_values}
use Rattle.integer_tableau.proofs.Sizes.{written}
use Rattle.integer_tableau.proofs.Turns.{turned_values}
use Rattle.integer_tableau.specs.Arena.{rows_by}
use Rattle.integer_tableau.specs.BasicColumns.{basic_from}
use Rattle.integer_tableau.specs.Combined.{expanded_values}
use Rattle.integer_tableau.specs.IntegerTableau.{fraction_bounds}
use Rattle.integer_tableau.specs.Kept.{KeptDictionaries, KeptDictionary, kept_at}
use Rattle.integer_tableau.specs.Numbers.{number_at}
use Rattle.integer_tableau.specs.Pivot.{AreSubstitutedValues}
use Rattle.integer_tableau.specs.RowSums.{AreRowSums}
use Rattle.integer_tableau.specs.Substitution.{quotient_numerator}
use Rattle.integer_tableau.specs.declared.position.Position.TheVariants.{InBasis, InColumn}
use Rattle.integer_tableau.proofs.basic_solution.BasicSolution.turn.Goals as goal

pub returns-then-not-is_near-clause-turned : goal.returns-then-not-is_near-clause-turned
returns-then-not-is_near-clause-turned c = λ e. absurd (false≢true e)

pub returns-then-not-is_near-clause-near : goal.returns-then-not-is_near-clause-near
returns-then-not-is_near-clause-near c = λ e. absurd (false≢true e)

pub divisor-divisor-requires : goal.divisor-divisor-requires
divisor-divisor-requires c = c.requires.there

pub basic_columns-basic_columns-requires : goal.basic_columns-basic_columns-requires
basic_columns-basic_columns-requires c = c.requires.there

pub value_with_sums-value-requires-clause-columns : goal.value_with_sums-value-requires-clause-columns
value_with_sums-value-requires-clause-columns c = c.requires.columns

pub value_with_sums-value-requires-clause-sums : goal.value_with_sums-value-requires-clause-sums
value_with_sums-value-requires-clause-sums c =
    subst (λ (T : Type 0). T) (λ i. AreRowSums c.args.program_rows.now (sym c.deref-2.ensures.value i) (sym c.deref-3.ensures.value i) (sym c.deref.ensures.value i)) c.requires.solution.at.sums

pub value_with_sums-value-requires-clause-bounded : goal.value_with_sums-value-requires-clause-bounded
value_with_sums-value-requires-clause-bounded c = λ j l.
    let compact = c.requires.solution.at.compact in
    let many = ap length c.deref-4.ensures.value ∙ compact.values in
    let value = ap (λ xs. nat_abs (number_at xs j)) c.deref-3.ensures.value in
    omega (arith, value, compact.bounded j (omega (arith, l, many, compact.variables)), compact.reached j (omega (arith, l, many)))

pub value_with_sums-value-requires-clause-positions_there : goal.value_with_sums-value-requires-clause-positions_there
value_with_sums-value-requires-clause-positions_there c =
    let at = c.requires.solution.at in
    omega (arith, ap length c.deref-2.ensures.value, ap length c.deref-4.ensures.value, at.basis.count, at.compact.variables, at.compact.values)

pub value_with_sums-value-requires-clause-nonbasic_values_there : goal.value_with_sums-value-requires-clause-nonbasic_values_there
value_with_sums-value-requires-clause-nonbasic_values_there c =
    let at = c.requires.solution.at in
    ap length c.deref-3.ensures.value ∙ at.compact.consistent.nonbasic_values ∙ sym at.basis.count ∙ sym (ap length c.deref-2.ensures.value)

pub value_with_sums-value-requires-clause-variable_there : goal.value_with_sums-value-requires-clause-variable_there
value_with_sums-value-requires-clause-variable_there c = omega (arith, c.requires.turn.leaving, c.requires.solution.at.basis.count, ap length c.deref-2.ensures.value)

pub value_with_sums-value-requires-clause-full : goal.value_with_sums-value-requires-clause-full
value_with_sums-value-requires-clause-full c = λ i l.
    let compact = c.requires.solution.at.compact in
    compact.full i l ∙ sym (ap length c.deref-4.ensures.value ∙ compact.values)

pub value_with_sums-value-requires-clause-light : goal.value_with_sums-value-requires-clause-light
value_with_sums-value-requires-clause-light c = λ i l. omega (arith, c.requires.solution.at.compact.weights i l, c.requires.solution.at.compact.light)

pub value_with_sums-value-requires-clause-near : goal.value_with_sums-value-requires-clause-near
value_with_sums-value-requires-clause-near c =
    let f : SFits w64 c.number.result = search rules in
    near_from_code _ _ _ _ c.requires.solution.at.compact c.deref-3.result.now c.deref-4.result.now _ c.deref-3.ensures.value c.deref-4.ensures.value
    (ap nat_abs (to_z-of_z w64 c.number.result f ∙ c.number.ensures ∙ c.divisor-divisor.ensures))

pub value_with_sums-value-requires-clause-basic : goal.value_with_sums-value-requires-clause-basic
value_with_sums-value-requires-clause-basic c =
    let d : KeptDictionary = kept_at c.args.dictionaries.now.all c.args.place in
    let n = c.args.self.now in
    let many : length c.deref-4.result.now ≡ length d.rows = ap length c.deref-4.ensures.value ∙ c.requires.solution.at.compact.values in
    c.basic_columns-basic_columns.ensures ∙ c.requires.solution.kept.basic ∙ sym (same_basic 0 (length d.rows) n.positions.items d.positions c.requires.solution.at.basis)
    ∙ (λ i. basic_from 0 (sym many i) (sym c.deref-2.ensures.value i))

pub value_with_sums-value-requires-clause-positive : goal.value_with_sums-value-requires-clause-positive
value_with_sums-value-requires-clause-positive c =
    let f : SFits w64 c.number.result = search rules in
    subst (λ z. pos 0 <ℤ z) (sym (to_z-of_z w64 c.number.result f ∙ c.number.ensures ∙ c.divisor-divisor.ensures)) c.requires.solution.kept.positive

pub index-requires : goal.index-requires
index-requires c = omega (arith, c.requires.turn.leaving, c.requires.solution.at.compact.consistent.bounds, c.args.self.now.bounds.ok.0)

pub index-left-requires : goal.index-left-requires
index-left-requires c = omega (arith, c.requires.turn.entering, c.requires.solution.at.compact.consistent.nonbasic_values, c.args.self.now.nonbasic_values.ok.0)

pub returns-in_default-clause-turned : goal.returns-in_default-clause-turned
returns-in_default-clause-turned c = λ e. absurd (false≢true e)

pub returns-in_default-clause-near : goal.returns-in_default-clause-near
returns-in_default-clause-near c = λ e. absurd (false≢true e)

pub rows-requires : goal.rows-requires
rows-requires c = c.requires.there

pub step_basic_values-requires-clause-rise : goal.step_basic_values-requires-clause-rise
step_basic_values-requires-clause-rise c =
    let d : KeptDictionary = kept_at c.args.dictionaries.now.all c.args.place in
    let same = c.basic_columns-basic_columns.ensures ∙ c.requires.solution.kept.basic in
    subst (λ js. (p q : ℕ) → p < q → q < length js → get_or js p 0 < get_or js q 0) (sym same) (columns_rise 0 (length d.rows) d.positions)

pub step_basic_values-requires-clause-there : goal.step_basic_values-requires-clause-there
step_basic_values-requires-clause-there c =
    let d : KeptDictionary = kept_at c.args.dictionaries.now.all c.args.place in
    let same = c.basic_columns-basic_columns.ensures ∙ c.requires.solution.kept.basic in
    let many : length c.deref_mut.result.now ≡ length d.rows = ap length c.deref_mut.ensures.value ∙ c.requires.solution.at.compact.values in
    subst (λ js. (p : ℕ) → p < length js → get_or js p 0 < length c.deref_mut.result.now) (sym same) (λ p l. omega (arith, many, column_within 0 (length d.rows) d.positions p l))

pub step_basic_values-requires-clause-rows_there : goal.step_basic_values-requires-clause-rows_there
step_basic_values-requires-clause-rows_there c =
    let width : c.dictionaries.inside.width ≡ c.args.dictionaries.now.width = ap (λ (k : KeptDictionaries). k.width) c.dictionaries.view_is in
    c.rows.ensures.many ∙ (λ i. length (sym c.basic_columns-basic_columns.ensures i) * sym width i)

pub step_basic_values-requires-clause-column : goal.step_basic_values-requires-clause-column
step_basic_values-requires-clause-column c =
    let d : KeptDictionary = kept_at c.args.dictionaries.now.all c.args.place in
    let width : c.dictionaries.inside.width ≡ c.args.dictionaries.now.width = ap (λ (k : KeptDictionaries). k.width) c.dictionaries.view_is in
    let many : length d.rows ≡ c.args.dictionaries.now.width = ap length c.rows.ensures.rows ∙ rows_many _ _ _ in
    omega (arith, width, many, c.requires.solution.kept.columns, (c.requires.solution.kept.nonbasic.all c.args.turn.entering c.args.turn.column c.requires.turn.column).0)

pub returns-then-not-step_basic_values-clause-turned : goal.returns-then-not-step_basic_values-clause-turned
returns-then-not-step_basic_values-clause-turned c = λ e. absurd (false≢true e)

pub returns-then-not-step_basic_values-clause-near : goal.returns-then-not-step_basic_values-clause-near
returns-then-not-step_basic_values-clause-near c = λ e. absurd (false≢true e)

pub turn_kept_sums-requires : goal.turn_kept_sums-requires
turn_kept_sums-requires c = (c.args.program_rows.now, c.requires.columns)

pub index_mut-requires : goal.index_mut-requires
index_mut-requires c = omega (arith, c.requires.turn.leaving, c.requires.solution.at.compact.consistent.nonbasic_values, c.args.self.now.nonbasic_values.ok.0)

pub index_mut-requires-2 : goal.index_mut-requires-2
index_mut-requires-2 c = omega (arith, c.requires.turn.entering, c.requires.solution.at.compact.consistent.nonbasic_values, c.args.self.now.nonbasic_values.ok.0)

pub index_mut-requires-3 : goal.index_mut-requires-3
index_mut-requires-3 c = omega (arith, c.requires.turn.leaving, c.requires.solution.at.basis.count, c.args.self.now.positions.ok.0)

pub index_mut-requires-4 : goal.index_mut-requires-4
index_mut-requires-4 c = omega (arith, c.requires.turn.entering, c.requires.solution.at.basis.count, c.args.self.now.positions.ok.0)

pub index_mut-requires-5 : goal.index_mut-requires-5
index_mut-requires-5 c = omega (arith, c.requires.turn.leaving, c.requires.solution.at.compact.consistent.at_upper, c.args.self.now.at_upper.ok.0)

pub index_mut-requires-6 : goal.index_mut-requires-6
index_mut-requires-6 c = omega (arith, c.requires.turn.entering, c.requires.solution.at.compact.consistent.at_upper, c.args.self.now.at_upper.ok.0)

pub overflow_add-self : goal.overflow_add-self
overflow_add-self c = record { fits = c.requires.room }

pub returns-clause-near : goal.returns-clause-near
returns-clause-near c = λ _. subst (λ z. c.args.self.now.reach * nat_abs z < 2 ^ 63) (to_z-of_z w64 c.args.size c.ranges.size) (c.if-not-is_near.ensures refl)

pub returns-clause-turned : goal.returns-clause-turned
returns-clause-turned c = λ _.
    let n = c.args.self.now in
    let t = c.args.turn in
    let ps = c.args.program_rows.now in
    let d : KeptDictionary = kept_at c.args.dictionaries.now.all c.args.place in
    let xs = n.nonbasic_values.items in
    let vs = n.values.items in
    let compact = c.requires.solution.at.compact in
    let fb : SFits w64 c.violated-bound.result = search rules in
    let fl : SFits w64 c.index-left.result.now = search rules in
    let fc : SFits w64 t.coefficient = search rules in
    let fn : SFits w64 c.number.result = search rules in
    let fm : SFits w64 c.number-2.result = search rules in
    let fv : SFits w128 c.value_with_sums-value.result = search rules in
    let fy : SFits w128 c.in-Some.entering = search rules in
    let same = c.requires.solution.at.basis in
    let entering_at = in_some_column (get_or n.positions.items t.entering InBasis)
    (λ e. let no : InBasis ≡ InColumn t.column = sym (same.to t.entering e) ∙ c.requires.turn.column in cc) in
    let own = c.index.result.now in
    let own_there : t.leaving < length n.bounds.items = omega (arith, c.requires.turn.leaving, compact.consistent.bounds) in
    let own_is : get_or (map fraction_bounds n.bounds.items) t.leaving unbounded ≡ fraction_bounds own =
    get_or-map fraction_bounds n.bounds.items t.leaving own unbounded own_there ∙ ap fraction_bounds (sym c.index.ensures) in
    let bound = to_z w64 (of_z w64 c.violated-bound.result) in
    let divisor : c.divisor-divisor.result.number ≡ pos (nat_abs d.denominator) = c.divisor-divisor.ensures ∙ size_is d.denominator c.requires.solution.kept.positive in
    let denominator : to_z w64 (of_z w64 c.number.result) ≡ d.denominator = to_z-of_z w64 c.number.result fn ∙ c.number.ensures ∙ c.divisor-divisor.ensures in
    let left_there : t.entering < length xs = omega (arith, c.requires.turn.entering, compact.consistent.nonbasic_values) in
    let left : to_z w64 (of_z w64 c.index-left.result.now) ≡ number_at xs t.entering =
    to_z-of_z w64 c.index-left.result.now fl ∙ c.index-left.ensures ∙ get_or_default xs t.entering c.index-left.result.now (pos 0) left_there in
    let coefficient = to_z-of_z w64 t.coefficient fc in
    let value : to_z w128 (of_z w128 c.value_with_sums-value.result) ≡ number_at (expanded_values (nat_abs d.denominator) ps d.positions xs vs) t.leaving =
    to_z-of_z w128 c.value_with_sums-value.result fv ∙ c.value_with_sums-value.ensures
    ∙ (λ i. number_at (expanded_values (nat_abs (denominator i)) ps (c.deref-2.ensures.value i) (c.deref-3.ensures.value i) (c.deref-4.ensures.value i)) t.leaving)
    ∙ ap (λ ws. number_at ws t.leaving) (same_values (nat_abs d.denominator) ps n.positions.items d.positions xs vs c.requires.solution.at.basis) in
    let number = to_z-of_z w64 c.number-2.result fm ∙ c.number-2.ensures ∙ divisor in
    let entering = to_z-of_z w128 c.in-Some.entering fy ∙ c.in-Some.ensures ∙ (λ i. quotient_numerator (coefficient i) (value i -ℤ coefficient i *ℤ left i -ℤ number i *ℤ bound)) in
    let y = to_z w128 (of_z w128 c.in-Some.entering) in
    let width : c.dictionaries.inside.width ≡ c.args.dictionaries.now.width = ap (λ (k : KeptDictionaries). k.width) c.dictionaries.view_is in
    let columns : length d.rows ≡ c.dictionaries.inside.width = ap length c.rows.ensures.rows ∙ rows_many _ _ _ ∙ sym width in
    let within : t.column < c.dictionaries.inside.width =
    omega (arith, columns, c.requires.solution.kept.columns, (c.requires.solution.kept.nonbasic.all t.entering t.column c.requires.turn.column).0) in
    let stepped = c.step_basic_values.new.values in
    let put = c.put_value.new.values in
    let middle = take n.values.len (stepped ++ drop (length stepped) vs) in
    let stepped_is : middle ≡ stepped = written stepped vs n.values.len (c.step_basic_values.auto.values ∙ c.deref_mut.ensures.len) in
    let put_is : take n.values.len (put ++ drop (length put) middle) ≡ put = written put middle n.values.len (c.put_value.auto.values ∙ c.deref_mut-else-not-step_basic_values.ensures.len) in
    let last : put ≡ set stepped t.entering y = c.if-not-put_value.ensures refl ∙ ap (λ ws. set ws t.entering y) (c.deref_mut-else-not-step_basic_values.ensures.value ∙ stepped_is) in
    let values = turned_values t.entering t.column c.dictionaries.inside.width c.divisor-divisor.result.number (to_z w64 (of_z w64 c.args.size)) (to_z w64 (of_z w64 c.index-left.result.now)) y
    c.basic_columns-basic_columns.result.now c.rows.result.now d.rows c.deref_mut.result.now stepped
    (c.rows.ensures.rows ∙ (λ i. rows_by (sym width i) (sym c.basic_columns-basic_columns.ensures i) c.rows.result.now)) within
    (ap length c.deref_mut.ensures.value ∙ compact.values ∙ columns) (c.if-not-step_basic_values.ensures.basic refl)
    (length d.rows) columns c.step_basic_values.auto.values in (
      bound,
      record {
        there = record {
          entering = c.requires.turn.column;
          leaving = c.requires.turn.basic;
          coefficient = subst (λ z. 0 < nat_abs z) c.requires.turn.coefficient c.requires.some;
          direction = c.requires.turn.direction;
          bound = ap (violated_bound t.direction) own_is ∙ c.violated-bound.ensures ∙ ap whole (sym (to_z-of_z w64 c.violated-bound.result fb));
        };
        values = subst (λ (T : Type 0). T) (λ i. AreSubstitutedValues t.entering t.column (divisor i) (to_z-of_z w64 c.args.size c.ranges.size i) (left i) (entering i) (length d.rows) d.rows
            (c.deref_mut.ensures.value i) (sym (put_is ∙ last) i)) values;
        nonbasic_values = refl;
        positions = refl;
        at_upper = search (rules, c.is_upper.ensures);
        sums = c.turn_kept_sums.ensures ps n.positions.items xs t.column entering_at.0 c.requires.columns c.requires.solution.at.sums (compact.consistent.nonbasic_values ∙ sym same.count)
            (omega (arith, c.requires.turn.leaving, same.count)) (omega (arith, c.requires.turn.entering, same.count)) (same.back t.leaving c.requires.turn.basic) entering_at.1 (sym left);
        bounds = refl;
        free = refl;
        reach = refl;
        pivots = refl;
      },
    )
