use Rattle.std.proofs.Common.{◌≡◌, ◌+◌, ◌*◌, ◌+ℤ◌, ◌*ℤ◌, ◌<◌, [], get_or, ap, arith, pos, rules, ◌∙◌, w64, to_z, of_z}
use Rattle.std.specs.Int.{int_wrap}
use mir.Val.{SFits}
use Rattle.std.proofs.lemmas.Int.{to_z-of_z, int_wrap-add_same}
use Rattle.std.proofs.lemmas.List.{get_or_default}
use Rattle.integer_tableau.proofs.CoefficientColumns.{place_within}
use Rattle.integer_tableau.proofs.LowSums.{wrapped_twice}
use Rattle.integer_tableau.proofs.RowSums.{products_done, products_more, none_plus}
use Rattle.integer_tableau.specs.Numbers.{number_at}
use Rattle.integer_tableau.specs.RowSums.{basic_products}
use Rattle.integer_tableau.proofs.row_sums.row_value.Goals as goal

pub overflow_mul-j : goal.overflow_mul-j
overflow_mul-j c =
    let a = c.args in
    let are = c.requires.columns.1 in
    let j = get_or a.basic_columns.now c.loop-column.column-index 0 in
    let l : j < a.columns.now.width = omega (arith, c.requires.basic_there c.loop-column.column-index c.loop-column-test.true, c.requires.values_there) in
    let within = place_within j a.columns.now.width a.row a.columns.now.rows l c.requires.there in
    record { fits = omega (arith, are.count, within, a.columns.now.numbers.ok.0) }

pub overflow_add-j : goal.overflow_add-j
overflow_add-j c =
    let a = c.args in
    let are = c.requires.columns.1 in
    let j = get_or a.basic_columns.now c.loop-column.column-index 0 in
    let l : j < a.columns.now.width = omega (arith, c.requires.basic_there c.loop-column.column-index c.loop-column-test.true, c.requires.values_there) in
    let within = place_within j a.columns.now.width a.row a.columns.now.rows l c.requires.there in
    record { fits = omega (arith, are.count, within, a.columns.now.numbers.ok.0) }

pub index-requires : goal.index-requires
index-requires c =
    let a = c.args in
    let are = c.requires.columns.1 in
    let j = get_or a.basic_columns.now c.loop-column.column-index 0 in
    let l : j < a.columns.now.width = omega (arith, c.requires.basic_there c.loop-column.column-index c.loop-column-test.true, c.requires.values_there) in
    let within = place_within j a.columns.now.width a.row a.columns.now.rows l c.requires.there in
    omega (arith, are.count, within)

pub loop-column-init : goal.loop-column-init
loop-column-init c = λ ps are.
    let d = to_z w64 (of_z w64 c.args.denominator) in
    let s = to_z w64 (of_z w64 c.args.sum) in
    let f : SFits w64 c.multiple_sum-value.result = search rules in
    int_wrap-add_same w64 _ (d *ℤ s) (basic_products (get_or ps c.args.row []) c.args.values.now c.args.basic_columns.now)
    (ap (int_wrap w64) (to_z-of_z w64 c.multiple_sum-value.result f ∙ c.multiple_sum-value.ensures) ∙ wrapped_twice (pos 0 +ℤ d *ℤ s) ∙ ap (int_wrap w64) (none_plus (d *ℤ s)))

pub loop-column-preserved : goal.loop-column-preserved
loop-column-preserved c = λ ps are.
    let i = c.loop-column.column-index in
    let js = c.args.basic_columns.now in
    let j = get_or js i 0 in
    let cs = get_or ps c.args.row [] in
    let vs = c.args.values.now in
    let old = to_z w64 c.loop-column.value-bits in
    let f : SFits w64 c.multiple_sum-value-in-loop-column.result = search rules in
    let g : SFits w64 (number_at vs j) = search rules in
    let h : SFits w64 c.index.result.now = search rules in
    let l : j < c.args.columns.now.width = omega (arith, c.requires.basic_there i c.loop-column-test.true, c.requires.values_there) in
    let coefficient : to_z w64 (of_z w64 c.index.result.now) ≡ number_at cs j = to_z-of_z w64 c.index.result.now h
    ∙ c.index.ensures ∙ get_or_default c.args.columns.now.numbers.items (j * c.args.columns.now.rows + c.args.row) c.index.result.now (pos 0)
    (omega (arith, are.count, place_within j c.args.columns.now.width c.args.row c.args.columns.now.rows l c.requires.there))
    ∙ are.each c.args.row j (omega (arith, c.requires.there, are.as_many)) l in
    products_more cs vs js i old (to_z w64 (of_z w64 c.multiple_sum-value-in-loop-column.result)) _ c.loop-column-test.true (c.loop-column.invariant ps are)
    (ap (int_wrap w64) (to_z-of_z w64 c.multiple_sum-value-in-loop-column.result f ∙ c.multiple_sum-value-in-loop-column.ensures) ∙ wrapped_twice _
    ∙ ap (int_wrap w64) (λ t. old +ℤ coefficient t *ℤ to_z-of_z w64 (number_at vs j) g t))

pub returns : goal.returns
returns c = λ ps are.
    let cs = get_or ps c.args.row [] in
    let vs = c.args.values.now in
    let js = c.args.basic_columns.now in
    ap (int_wrap w64) (products_done cs vs js c.loop-column.column-index _ c.loop-column-test.false) ∙ c.loop-column.invariant ps are
    ∙ ap (int_wrap w64) (λ t. to_z-of_z w64 c.args.denominator c.ranges.denominator t *ℤ to_z-of_z w64 c.args.sum c.ranges.sum t +ℤ basic_products cs vs js)
