use Rattle.std.proofs.Common.{◌≡◌, ◌<◌, ℤ, List, length, arith, ap, refl, subst, ◌∙◌, rules, w64, to_z, of_z}
use Rattle.std.specs.Prelude.{OnOk}
use mir.Val.{SFits}
use Rattle.std.proofs.lemmas.Int.{to_z-of_z}
use Rattle.integer_tableau.proofs.KeptRows.{begins_within, below_width, column_row, combination_row, ends_within, program_row_width}
use Rattle.integer_tableau.specs.Arena.{flat_row}
use Rattle.integer_tableau.proofs.dictionary.Dictionaries.put_row.Goals as goal

pub overflow_mul-from : goal.overflow_mul-from
overflow_mul-from c =
    let vs = c.nonbasic-nonbasic.result.now in
    let js = c.basic_columns-basic_columns.result.now in
    let ns = c.rows-rows.result.now in
    omega (arith, begins_within _ _ _ _ c.requires.kept.2 vs js ns _ c.nonbasic-nonbasic.ensures.value c.nonbasic-nonbasic.ensures.width c.basic_columns-basic_columns.ensures c.rows-rows.ensures.rows c.rows-rows.ensures.many c.place_of.result c.place_of.ensures.within)

pub slice_bounds-put-end : goal.slice_bounds-put-end
slice_bounds-put-end c =
    let vs = c.nonbasic-nonbasic.result.now in
    let js = c.basic_columns-basic_columns.result.now in
    let ns = c.rows-rows.result.now in
    let row = column_row _ _ _ _ c.requires.kept.2 vs js ns _ c.nonbasic-nonbasic.ensures.value c.nonbasic-nonbasic.ensures.width c.basic_columns-basic_columns.ensures c.rows-rows.ensures.rows c.rows-rows.ensures.many c.args.variable c.requires.variable_there c.requires.basic c.if-variable-width.true in
    let there : c.place_of.result < length js = omega (arith, c.place_of.ensures.value, row.0) in
    let ends = ends_within _ _ _ _ c.requires.kept.2 vs js ns _ c.nonbasic-nonbasic.ensures.value c.nonbasic-nonbasic.ensures.width c.basic_columns-basic_columns.ensures c.rows-rows.ensures.rows c.rows-rows.ensures.many c.place_of.result there in
    search rules

pub returns-then-variable-width : goal.returns-then-variable-width
returns-then-variable-width c =
    let vs = c.nonbasic-nonbasic.result.now in
    let js = c.basic_columns-basic_columns.result.now in
    let ns = c.rows-rows.result.now in
    let row = column_row _ _ _ _ c.requires.kept.2 vs js ns _ c.nonbasic-nonbasic.ensures.value c.nonbasic-nonbasic.ensures.width c.basic_columns-basic_columns.ensures c.rows-rows.ensures.rows c.rows-rows.ensures.many c.args.variable c.requires.variable_there c.requires.basic c.if-variable-width.true in
    subst (λ (xs : List ℤ). OnOk c.put.result (c.put.new.self ≡ xs)) (ap (flat_row (length vs) ns) c.place_of.ensures.value ∙ row.1) c.put.ensures

pub spread-requires : goal.spread-requires
spread-requires c =
    let vs = c.nonbasic-nonbasic.result.now in
    let js = c.basic_columns-basic_columns.result.now in
    let ns = c.rows-rows.result.now in
    program_row_width _ _ _ _ c.requires.kept.2 vs js ns _ c.nonbasic-nonbasic.ensures.value c.nonbasic-nonbasic.ensures.width c.basic_columns-basic_columns.ensures c.rows-rows.ensures.rows c.rows-rows.ensures.many c.args.variable c.requires.variable_there c.requires.basic c.if-variable-width.false c.index-program_rows-variable.result c.index-program_rows-variable.is

pub combine_kept-requires-clause-columns_there : goal.combine_kept-requires-clause-columns_there
combine_kept-requires-clause-columns_there c = λ p l.
    let vs = c.nonbasic-nonbasic.result.now in
    let js = c.basic_columns-basic_columns.result.now in
    let ns = c.rows-rows.result.now in
    let wide = program_row_width _ _ _ _ c.requires.kept.2 vs js ns _ c.nonbasic-nonbasic.ensures.value c.nonbasic-nonbasic.ensures.width c.basic_columns-basic_columns.ensures c.rows-rows.ensures.rows c.rows-rows.ensures.many c.args.variable c.requires.variable_there c.requires.basic c.if-variable-width.false c.index-program_rows-variable.result c.index-program_rows-variable.is in
    omega (arith, below_width _ _ _ _ c.requires.kept.2 vs js ns _ c.nonbasic-nonbasic.ensures.value c.nonbasic-nonbasic.ensures.width c.basic_columns-basic_columns.ensures c.rows-rows.ensures.rows c.rows-rows.ensures.many p l, wide, ap length (c.deref.ensures.value ∙ c.in_ok-spread.ensures))

pub returns-then-combine_kept : goal.returns-then-combine_kept
returns-then-combine_kept c =
    let vs = c.nonbasic-nonbasic.result.now in
    let js = c.basic_columns-basic_columns.result.now in
    let ns = c.rows-rows.result.now in
    let f : SFits w64 c.number-denominator.result = record { sfits = c.number-denominator.type_inv } in
    combination_row _ _ _ _ c.requires.kept.2 vs js ns _ c.nonbasic-nonbasic.ensures.value c.nonbasic-nonbasic.ensures.width c.basic_columns-basic_columns.ensures c.rows-rows.ensures.rows c.rows-rows.ensures.many c.args.variable c.requires.variable_there c.requires.basic c.if-variable-width.false c.index-program_rows-variable.result c.index-program_rows-variable.is
    c.deref.result.now c.combine_kept.new.self (to_z w64 (of_z w64 c.number-denominator.result)) (c.deref.ensures.value ∙ c.in_ok-spread.ensures)
    (to_z-of_z w64 c.number-denominator.result f ∙ c.number-denominator.ensures ∙ c.divisor.ensures) (c.if-combine_kept.ensures refl)
