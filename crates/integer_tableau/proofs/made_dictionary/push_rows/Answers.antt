use Rattle.std.proofs.Common.{◌∙◌, ◌-◌, ◌≤◌, ◌++◌, ℤ, List, [], arith, ap, length, refl, rules, subst, sym, take, of_z, to_z, w64}
use Rattle.std.proofs.lemmas.Int.{to_z-of_z}
use Rattle.std.proofs.lemmas.List.{append-nil, append_assoc, length-append, take_all}
use Rattle.integer_tableau.specs.Arena.{AreMadeRows, row_by}
use Rattle.integer_tableau.specs.Kept.{rows_of}
use Rattle.integer_tableau.specs.Numbers.{IsWithin}
use Rattle.integer_tableau.specs.Range.{size_limit}
use Rattle.integer_tableau.proofs.PushedRows.{no_rows, rows_stay, rows_step}
use Rattle.integer_tableau.proofs.made_dictionary.push_rows.Goals as goal

pub loop-column-init : goal.loop-column-init
loop-column-init c =
    let old : List ℤ = c.args.numerators.now.items in
    let width = length c.args.solved.now in (
      [],
      sym (append-nil old),
      no_rows c.args.own.divisor.number (to_z w64 (of_z w64 c.args.pivot_size)) c.args.turn.column c.args.turn.entering width c.args.solved.now (row_by width c.args.old_columns.now (rows_of width old c.args.own)) refl c.args.columns.now,
      λ k. omega arith,
    )

pub push_row-requires-clause-there : goal.push_row-requires-clause-there
push_row-requires-clause-there c =
    let h = c.loop-column.invariant in
    omega (arith, ap length h.1, length-append c.args.numerators.now.items h.0, c.requires.there)

pub push_row-requires-clause-known : goal.push_row-requires-clause-known
push_row-requires-clause-known c = c.requires.known c.loop-column.column-index c.loop-column-test.true

pub push_row-requires-clause-within : goal.push_row-requires-clause-within
push_row-requires-clause-within c =
    let h = c.loop-column.invariant in
    subst (IsWithin c.args.own.size) (sym (rows_stay (length c.args.solved.now) c.args.own.numerators c.args.own.count c.args.numerators.now.items c.requires.there c.loop-column.numerators.items h.0 h.1)) c.requires.within

pub push_row-requires-clause-small : goal.push_row-requires-clause-small
push_row-requires-clause-small c =
    let h = c.loop-column.invariant in
    subst (IsWithin (size_limit - 1)) (sym (rows_stay (length c.args.solved.now) c.args.own.numerators c.args.own.count c.args.numerators.now.items c.requires.there c.loop-column.numerators.items h.0 h.1)) c.requires.small

pub loop-column-preserved : goal.loop-column-preserved
loop-column-preserved c =
    let h = c.loop-column.invariant in
    let r = c.in_ok-row.ensures.pushed in
    let more : c.loop-column.size ≤ c.max-size.result = search rules in
    let above : c.in_ok-row.row ≤ c.max-size.result = search rules in
    rows_step c.args.own.divisor.number (to_z w64 (of_z w64 c.args.pivot_size)) c.args.turn.column c.args.turn.entering c.args.solved.now (length c.args.solved.now) refl c.args.own.numerators c.args.own.count c.args.numerators.now.items
    c.args.old_columns.now c.args.columns.now c.requires.there c.loop-column.column-index c.loop-column.size c.max-size.result c.in_ok-row.row c.loop-column.numerators.items h.0 r.0 c.push_row.new.numerators.items
    c.loop-column-test.true h.1 h.2 h.3 r.1 r.2 r.3 more above

pub returns-clause-pushed : goal.returns-clause-pushed
returns-clause-pushed c =
    let h = c.loop-column.invariant in
    let width = length c.args.solved.now in
    let rows = row_by width c.args.old_columns.now (rows_of width c.args.numerators.now.items c.args.own) in (
      h.0,
      h.1,
      subst (λ vs. AreMadeRows c.args.own.divisor.number c.args.pivot_size c.args.turn.column c.args.turn.entering width c.args.solved.now rows vs h.0) (take_all c.loop-column.column-index c.args.columns.now c.loop-column-test.false)
          (subst (λ e. AreMadeRows c.args.own.divisor.number e c.args.turn.column c.args.turn.entering width c.args.solved.now rows (take c.loop-column.column-index c.args.columns.now) h.0) (to_z-of_z w64 c.args.pivot_size c.ranges.pivot_size) h.2),
      h.3,
    )

pub returns-in_err-row-clause-more : goal.returns-in_err-row-clause-more
returns-in_err-row-clause-more c =
    let h = c.loop-column.invariant in
    let m = c.push_row.ensures.more in
    (h.0 ++ m.0, m.1 ∙ ap (λ xs. xs ++ m.0) h.1 ∙ append_assoc c.args.numerators.now.items h.0 m.0)
