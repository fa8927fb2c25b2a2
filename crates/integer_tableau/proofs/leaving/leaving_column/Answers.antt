use Rattle.std.proofs.Common.{◌≡◌, ℕ, ℤ, ◌<◌, ◌∙◌, None, Option, Some, ap, arith, length, nat_abs, get_or, subst, sym, rules, w64, to_z, of_z}
use Rattle.std.specs.Int.{w128}
use mir.Val.{SFits}
use Rattle.std.proofs.lemmas.Int.{to_z-of_z}
use Rattle.fraction.specs.Rational.{frac}
use Rattle.tableau.specs.Leaving.{violation}
use Rattle.tableau.specs.declared.bounds.Direction.{Direction}
use Rattle.integer_tableau.proofs.BasicColumns.{column_within}
use Rattle.integer_tableau.proofs.LeavingColumns.{among_columns, first_unfolds, no_bounds, none_left}
use Rattle.integer_tableau.specs.IntegerTableau.{fraction_bounds}
use Rattle.integer_tableau.specs.Leaving.{leaving_by_numerators, violation_at}
use Rattle.integer_tableau.specs.Numbers.{number_at}
use Rattle.integer_tableau.specs.declared.integer_bounds.IntegerBounds.{IntegerBounds}
use Rattle.integer_tableau.specs.declared.position.Position.TheVariants.{InBasis}
use Rattle.integer_tableau.proofs.leaving.leaving_column.Goals as goal

pub loop-column-init : goal.loop-column-init
loop-column-init c =
    among_columns (nat_abs (to_z w64 (of_z w64 c.args.denominator))) c.args.positions.now c.args.bounds.now c.args.values.now c.args.basic_columns.now c.requires.basic c.requires.positions_there c.requires.bounds_there

pub bounds-values-j : goal.bounds-values-j
bounds-values-j c =
    let p = c.loop-column.column-index in
    let n = length c.args.values.now in
    let l = subst (λ js. p < length js → get_or js p 0 < n) (sym c.requires.basic) (λ l. omega (arith, column_within 0 n c.args.positions.now p l)) c.loop-column-test.true in l

pub bounds-bounds-j : goal.bounds-bounds-j
bounds-bounds-j c =
    let p = c.loop-column.column-index in
    let n = length c.args.values.now in
    let l = subst (λ js. p < length js → get_or js p 0 < n) (sym c.requires.basic) (λ l. omega (arith, column_within 0 n c.args.positions.now p l)) c.loop-column-test.true in
    omega (arith, l, c.requires.bounds_there)

pub offset_bounds-bounds-j : goal.offset_bounds-bounds-j
offset_bounds-bounds-j c =
    let p = c.loop-column.column-index in
    let n = length c.args.values.now in
    let l = subst (λ js. p < length js → get_or js p 0 < n) (sym c.requires.basic) (λ l. omega (arith, column_within 0 n c.args.positions.now p l)) c.loop-column-test.true in
    let m : get_or c.args.basic_columns.now p 0 < length c.args.bounds.now = omega (arith, l, c.requires.bounds_there) in search rules

pub offset_bounds-values-j : goal.offset_bounds-values-j
offset_bounds-values-j c =
    let p = c.loop-column.column-index in
    let n = length c.args.values.now in
    let l = subst (λ js. p < length js → get_or js p 0 < n) (sym c.requires.basic) (λ l. omega (arith, column_within 0 n c.args.positions.now p l)) c.loop-column-test.true in search rules

pub returns-in-Some-clause-within : goal.returns-in-Some-clause-within
returns-in-Some-clause-within c =
    let p = c.loop-column.column-index in
    let n = length c.args.values.now in
    let l = subst (λ js. p < length js → get_or js p 0 < n) (sym c.requires.basic) (λ l. omega (arith, column_within 0 n c.args.positions.now p l)) c.loop-column-test.true in l

asked : (d : ℕ) (b : IntegerBounds) (z v : ℤ) (r o : Option Direction) → z ≡ v → r ≡ violation (fraction_bounds b) (frac z d) → r ≡ o → violation_at d InBasis b v ≡ o
asked d b z v r o e f g = sym (ap (λ z. violation (fraction_bounds b) (frac z d)) e) ∙ sym f ∙ g

pub loop-column-preserved : goal.loop-column-preserved
loop-column-preserved c =
    let a = c.args in
    let p = c.loop-column.column-index in
    let d = nat_abs (to_z w64 (of_z w64 a.denominator)) in
    let bs = a.bounds.now in
    let vs = a.values.now in
    let js = a.basic_columns.now in
    let j = get_or js p 0 in
    let f : SFits w128 c.from.result = record { sfits = c.from.type_inv } in
    let g : SFits w64 (number_at vs j) = search rules in
    let value = to_z-of_z w128 c.from.result f ∙ c.from.ensures ∙ to_z-of_z w64 (number_at vs j) g in
    first_unfolds d bs vs js p None c.loop-column-test.true (asked d (get_or bs j no_bounds) _ (number_at vs j) c.violation.result None value c.violation.ensures c.in_default.is)
    ∙ c.loop-column.invariant

pub returns-in-Some-clause-value : goal.returns-in-Some-clause-value
returns-in-Some-clause-value c =
    let a = c.args in
    let p = c.loop-column.column-index in
    let d = nat_abs (to_z w64 (of_z w64 a.denominator)) in
    let bs = a.bounds.now in
    let vs = a.values.now in
    let js = a.basic_columns.now in
    let j = get_or js p 0 in
    let f : SFits w128 c.from.result = record { sfits = c.from.type_inv } in
    let g : SFits w64 (number_at vs j) = search rules in
    let value = to_z-of_z w128 c.from.result f ∙ c.from.ensures ∙ to_z-of_z w64 (number_at vs j) g in
    first_unfolds d bs vs js p (Some c.in-Some.direction) c.loop-column-test.true (asked d (get_or bs j no_bounds) _ (number_at vs j) c.violation.result (Some c.in-Some.direction) value c.violation.ensures c.in-Some.is)
    ∙ c.loop-column.invariant
    ∙ ap (λ z. leaving_by_numerators (nat_abs z) 0 a.positions.now bs vs) (to_z-of_z w64 a.denominator c.ranges.denominator)

pub returns-clause-value : goal.returns-clause-value
returns-clause-value c =
    let a = c.args in
    none_left (nat_abs (to_z w64 (of_z w64 a.denominator))) a.bounds.now a.values.now a.basic_columns.now c.loop-column.column-index c.loop-column-test.false
    ∙ c.loop-column.invariant
    ∙ ap (λ z. leaving_by_numerators (nat_abs z) 0 a.positions.now a.bounds.now a.values.now) (to_z-of_z w64 a.denominator c.ranges.denominator)
