use Rattle.std.proofs.Common.{arith, refl, ◌≡◌, ◌∙◌, ◌+◌, ◌-◌, ◌<◌, ◌≤◌, [], length, rules, ap, sym, subst, nat_abs, drop, w64, get_or, to_z, of_z}
use mir.Val.{SFits}
use Rattle.std.proofs.lemmas.Int.{to_z-of_z}
use Rattle.std.proofs.lemmas.List.{get_or_default, take_rest}
use Rattle.integer_tableau.proofs.Answering.{column_are, combined_are, none_are}
use Rattle.integer_tableau.proofs.Expanded.{row_made}
use Rattle.integer_tableau.proofs.FromCode.{is_there, small_from_code, statuses_as_many}
use Rattle.std.proofs.lemmas.Result.{IfOk-weaker}
use Rattle.integer_tableau.specs.Combined.{combined_row}
use Rattle.integer_tableau.specs.Numbers.{IsWithin}
use Rattle.integer_tableau.specs.Range.{size_limit}
use Rattle.integer_tableau.specs.Positions.{coefficients}
use Rattle.integer_tableau.specs.declared.position.Position.TheVariants.{InBasis}
use Rattle.integer_tableau.proofs.integer_tableau.IntegerTableau.coefficients_from.Goals as goal

pub index-requires : goal.index-requires
index-requires c =
    omega (arith, is_there _ _ _ _ _ _ c.args.self.now c.self.invariant.0 c.self.view_is c.self.inside.positions.items c.args.variable refl c.requires.variable_there, c.self.inside.positions.ok)

pub returns-in_default : goal.returns-in_default
returns-in_default c =
    let there = is_there _ _ _ _ _ _ c.args.self.now c.self.invariant.0 c.self.view_is c.self.inside.positions.items c.args.variable refl c.requires.variable_there in
    c.new.ensures.items
    ∙ none_are _ _ _ _ _ _ c.args.self.now c.self.invariant.0 c.self.view_is refl c.args.variable there c.args.first c.in_default.field-0
    (sym (get_or_default c.self.inside.positions.items c.args.variable c.index.result.now InBasis there) ∙ sym c.index.ensures ∙ c.in_default.is)

first_there : (c : goal.After-deref) → c.args.first ≤ length c.deref.result.now
first_there c = omega (arith, c.requires.first_there, ap length c.deref.ensures.value, statuses_as_many _ _ _ _ _ _ c.args.self.now c.self.invariant.0 c.self.view_is)

pub offset_bounds-deref-first : goal.offset_bounds-deref-first
offset_bounds-deref-first c = let l = first_there c in search rules

pub slice_bounds-coefficients-count : goal.slice_bounds-coefficients-count
slice_bounds-coefficients-count c = first_there c

pub slice_bounds-coefficients-start : goal.slice_bounds-coefficients-start
slice_bounds-coefficients-start c = let l = first_there c in search rules

pub row-requires : goal.row-requires
row-requires c =
    omega (
      arith,
      is_there _ _ _ _ _ _ c.args.self.now c.self.invariant.0 c.self.view_is c.self.inside.positions.items c.args.variable refl c.requires.variable_there,
      c.self.inside.rows.ok,
      c.len-columns.ensures,
      c.self.invariant.0.variables,
      c.if-variable-columns.false,
    )

-- the row of the linear program that is read
module _ (c : goal.After-combined_coefficients-arg-1) where
  place_there : c.args.variable - c.len-columns.result < length c.self.inside.fixed.rows.items.value.items
  place_there =
      omega (
        arith,
        is_there _ _ _ _ _ _ c.args.self.now c.self.invariant.0 c.self.view_is c.self.inside.positions.items c.args.variable refl c.requires.variable_there,
        c.self.inside.rows.ok,
        c.len-columns.ensures,
        c.self.invariant.0.variables,
        c.if-variable-columns.false,
      )

  row_is : c.row.result.now ≡ get_or c.self.inside.fixed.rows.items.value.items (c.args.variable - c.len-columns.result) []
  row_is = c.row.ensures

  row_full : length c.row.result.now ≡ length c.self.inside.rows.items
  row_full = ap length row_is ∙ c.self.invariant.0.full (c.args.variable - c.len-columns.result) place_there

pub combined_coefficients-requires-clause-rows_there : goal.combined_coefficients-requires-clause-rows_there
combined_coefficients-requires-clause-rows_there c = omega (arith, row_full c, ap length c.deref-else-variable-columns-2.ensures.value)

pub combined_coefficients-requires-clause-positions_there : goal.combined_coefficients-requires-clause-positions_there
combined_coefficients-requires-clause-positions_there c = omega (arith, row_full c, ap length c.deref-else-variable-columns.ensures.value, c.self.invariant.0.variables)

pub combined_coefficients-requires-clause-first_there : goal.combined_coefficients-requires-clause-first_there
combined_coefficients-requires-clause-first_there c =
    omega (arith, c.requires.first_there, ap length c.deref-else-variable-columns.ensures.value, statuses_as_many _ _ _ _ _ _ c.args.self.now c.self.invariant.0 c.self.view_is)

pub combined_coefficients-requires-clause-small : goal.combined_coefficients-requires-clause-small
combined_coefficients-requires-clause-small c =
    let n = c.self.inside in
    let ps = n.fixed.rows.items.value.items in
    let ss = c.deref-else-variable-columns.result.now in
    let rows = c.deref-else-variable-columns-2.result.now in
    let a = c.row.result.now in
    let f : SFits w64 n.denominator = search rules in
    let d = to_z-of_z w64 n.denominator f in
    let there = is_there _ _ _ _ _ _ c.args.self.now c.self.invariant.0 c.self.view_is n.positions.items c.args.variable refl c.requires.variable_there in
    let many : length ss ≡ length rows + length ps = omega (arith, ap length c.deref-else-variable-columns.ensures.value, ap length c.deref-else-variable-columns-2.ensures.value, c.self.invariant.0.variables) in
    let basic : get_or ss c.args.variable InBasis ≡ InBasis =
    ap (λ ss. get_or ss c.args.variable InBasis) c.deref-else-variable-columns.ensures.value
    ∙ sym (get_or_default n.positions.items c.args.variable c.index.result.now InBasis there) ∙ sym c.index.ensures ∙ c.in-InBasis.is in
    let e : a ≡ get_or ps (c.args.variable - length rows) a =
    row_is c ∙ sym (get_or_default ps (c.args.variable - c.len-columns.result) a [] (place_there c))
    ∙ ap (λ k. get_or ps (c.args.variable - k) a) (let k : c.len-columns.result ≡ length rows = omega (arith, c.len-columns.ensures, n.rows.ok, ap length c.deref-else-variable-columns-2.ensures.value) in k) in
    subst (IsWithin (size_limit - 1)) (sym (row_made (nat_abs (to_z w64 (of_z w64 n.denominator))) ps ss rows many c.args.variable a _
    (omega (arith, c.if-variable-columns.false, c.len-columns.ensures, n.rows.ok, ap length c.deref-else-variable-columns-2.ensures.value))
    (omega (arith, there, ap length c.deref-else-variable-columns.ensures.value)) basic e refl))
    (small_from_code _ _ _ _ c.self.invariant.0 ps ss rows _ c.args.variable refl c.deref-else-variable-columns.ensures.value c.deref-else-variable-columns-2.ensures.value (ap nat_abs d))

pub returns-then-variable-columns : goal.returns-then-variable-columns
returns-then-variable-columns c =
    let n = c.self.inside in
    let f : SFits w64 n.denominator = search rules in
    let there = is_there _ _ _ _ _ _ c.args.self.now c.self.invariant.0 c.self.view_is n.positions.items c.args.variable refl c.requires.variable_there in
    IfOk-weaker c.coefficients.result _ _ (λ v h. h
    ∙ (λ i. coefficients (nat_abs (to_z-of_z w64 n.denominator f i)) (take_rest c.deref.result.now c.args.first i) (c.numerators.ensures i))
    ∙ ap (λ ss. coefficients (nat_abs n.denominator) (drop c.args.first ss) c.index-then-variable-columns.result.now) c.deref.ensures.value
    ∙ column_are _ _ _ _ _ _ c.args.self.now c.self.invariant.0 c.self.view_is refl c.args.variable there c.args.first c.index-then-variable-columns.result.now
    (sym (get_or_default n.positions.items c.args.variable c.index.result.now InBasis there) ∙ sym c.index.ensures ∙ c.in-InBasis.is)
    (omega (arith, c.if-variable-columns.true, c.len-columns.ensures, n.rows.ok))
    (c.index-then-variable-columns.ensures ∙ get_or_default n.rows.items c.args.variable c.index-then-variable-columns.result.now [] (omega (arith, c.if-variable-columns.true, c.len-columns.ensures, n.rows.ok)))) c.coefficients.ensures

pub returns-else-variable-columns : goal.returns-else-variable-columns
returns-else-variable-columns c =
    let n = c.self.inside in
    let f : SFits w64 n.denominator = search rules in
    let there = is_there _ _ _ _ _ _ c.args.self.now c.self.invariant.0 c.self.view_is n.positions.items c.args.variable refl c.requires.variable_there in
    let i = c.args.variable - c.len-columns.result in
    let place_there : i < length n.fixed.rows.items.value.items = omega (arith, there, n.rows.ok, c.len-columns.ensures, c.self.invariant.0.variables, c.if-variable-columns.false) in
    IfOk-weaker c.combined_coefficients.result _ _ (λ v h. h
    ∙ (λ i. coefficients (nat_abs (to_z-of_z w64 n.denominator f i)) (drop c.args.first (c.deref-else-variable-columns.ensures.value i))
    (combined_row (nat_abs (to_z-of_z w64 n.denominator f i)) (c.deref-else-variable-columns.ensures.value i) (c.deref-else-variable-columns-2.ensures.value i) c.row.result.now))
    ∙ combined_are _ _ _ _ _ _ c.args.self.now c.self.invariant.0 c.self.view_is refl c.args.variable there c.args.first c.row.result.now i
    (sym (get_or_default n.positions.items c.args.variable c.index.result.now InBasis there) ∙ sym c.index.ensures ∙ c.in-InBasis.is)
    (omega (arith, n.rows.ok, c.len-columns.ensures, c.if-variable-columns.false)) place_there
    c.row.ensures) c.combined_coefficients.ensures
