use Rattle.std.proofs.Common.{◌≡◌, ◌++◌, ◌+◌, ◌<◌, ◌∷◌, ℕ, List, length, arith, sym, ap, subst, ◌∙◌, drop, get_or}
use Rattle.std.proofs.lemmas.List.{drop-set-lt, nil_from_length}
use Rattle.std.specs.Option.{option_or}
use Rattle.problem.specs.Rising.{AreNonzero, AreRising}
use Rattle.fraction.specs.Rational.{ℚ}
use Rattle.mps_reader.specs.RangedRows.{IsTextNumber}
use Rattle.mps_reader.specs.Building.{objective_with}
use Rattle.mps_reader.specs.Meaning.{rows_from}
use Rattle.mps_reader.specs.RowState.{bare_row}
use Rattle.mps_reader.proofs.RowsMade.{left_from, left_within, next_limits, rows_done, rows_next}
use Rattle.mps_reader.proofs.TableLemmas.{length-table}
use Rattle.mps_reader.specs.Tables.{table}
use Rattle.mps_reader.specs.declared.kinds.RowType.{RowType}
use Rattle.mps_reader.proofs.ranged_rows.ranged_parts.Goals as goal

pub take_terms-requires : goal.take_terms-requires
take_terms-requires g c =
    left_within c.loop-index.left c.loop-index.index (length (table c.args.rows.now.entries)) c.loop-index.invariant.count
    (omega (arith, c.loop-index-test.true, c.len-index-end.ensures, length-table c.args.rows.now.entries))

pub take_row-requires-clause-rising : goal.take_row-requires-clause-rising
take_row-requires-clause-rising g c =
    let rows = table c.args.rows.now.entries in
    let i = c.loop-index.index in
    let left = c.loop-index.left in
    let l : i < length rows = omega (arith, c.loop-index-test.true, c.len-index-end.ensures, length-table c.args.rows.now.entries) in
    subst (λ ts. AreRising ts) (sym c.take_terms.ensures.terms)
    (next_limits c.args.sides.now c.args.ranges.now rows c.args.terms c.loop-index.parts.rows.items c.loop-index.parts.objective i
    (drop i left) c.loop-index.invariant (get_or left i bare_row) (drop (i + 1) left) (left_from left i (length rows) c.loop-index.invariant.count l)).0

pub take_row-requires-clause-nonzero : goal.take_row-requires-clause-nonzero
take_row-requires-clause-nonzero g c =
    let rows = table c.args.rows.now.entries in
    let i = c.loop-index.index in
    let left = c.loop-index.left in
    let l : i < length rows = omega (arith, c.loop-index-test.true, c.len-index-end.ensures, length-table c.args.rows.now.entries) in
    subst (λ ts. AreNonzero ts) (sym c.take_terms.ensures.terms)
    (next_limits c.args.sides.now c.args.ranges.now rows c.args.terms c.loop-index.parts.rows.items c.loop-index.parts.objective i
    (drop i left) c.loop-index.invariant (get_or left i bare_row) (drop (i + 1) left) (left_from left i (length rows) c.loop-index.invariant.count l)).1

pub take_row-requires-clause-rhs : goal.take_row-requires-clause-rhs
take_row-requires-clause-rhs g c = subst (λ (q : ℚ). IsTextNumber q) (sym c.side_at.ensures) (c.requires.sides c.loop-index.index)

pub loop-index-preserved : goal.loop-index-preserved
loop-index-preserved g c =
    let rows = table c.args.rows.now.entries in
    let i = c.loop-index.index in
    let left = c.loop-index.left in
    let new = c.take_terms.new.self in
    let l : i < length rows = omega (arith, c.loop-index-test.true, c.len-index-end.ensures, length-table c.args.rows.now.entries) in
    let k = c.row_at-kind.result.1 in
    let r : List ℕ × RowType = (c.row_at-kind.result.0.now, k) in
    let done = c.loop-index.parts.rows.items in
    let o = c.loop-index.parts.objective in
    let behind : drop (i + 1) left ≡ drop (i + 1) new = sym (ap (drop (i + 1)) c.take_terms.ensures.rows ∙ drop-set-lt (i + 1) left i bare_row (omega arith)) in
    rows_next c.args.sides.now c.args.ranges.now rows c.args.terms done o i (drop i left) c.loop-index.invariant
    (get_or left i bare_row) (drop (i + 1) new) r c.take_row.new.parts.rows.items c.take_row.new.parts.objective
    (left_from left i (length rows) c.loop-index.invariant.count l ∙ ap (λ ts. get_or left i bare_row ∷ ts) behind) c.row_at-kind.ensures
    (c.in_ok-take_row.ensures.rows ∙ (λ j. done ++ rows_from k (c.side_at.ensures j) (c.number_at.ensures j) (c.take_terms.ensures.terms j)))
    (c.in_ok-take_row.ensures.objective ∙ ap (λ ts. option_or o (objective_with k ts)) c.take_terms.ensures.terms)

pub returns-clause-rows : goal.returns-clause-rows
returns-clause-rows g c =
    let left = drop c.loop-index.index c.loop-index.left in
    let n : length left ≡ 0 = omega (arith, c.loop-index.invariant.count, c.loop-index-test.false, c.len-index-end.ensures, length-table c.args.rows.now.entries) in
    (rows_done c.args.sides.now c.args.ranges.now (table c.args.rows.now.entries) c.args.terms c.loop-index.parts.rows.items c.loop-index.parts.objective c.loop-index.index left
    c.loop-index.invariant (nil_from_length left n)).0

pub returns-clause-objective : goal.returns-clause-objective
returns-clause-objective g c =
    let left = drop c.loop-index.index c.loop-index.left in
    let n : length left ≡ 0 = omega (arith, c.loop-index.invariant.count, c.loop-index-test.false, c.len-index-end.ensures, length-table c.args.rows.now.entries) in
    (rows_done c.args.sides.now c.args.ranges.now (table c.args.rows.now.entries) c.args.terms c.loop-index.parts.rows.items c.loop-index.parts.objective c.loop-index.index left
    c.loop-index.invariant (nil_from_length left n)).1
