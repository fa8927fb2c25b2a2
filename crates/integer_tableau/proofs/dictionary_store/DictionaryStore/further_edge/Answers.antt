use Rattle.std.proofs.Common.{◌∙◌, ap, refl, sym}
use Rattle.std.specs.Prelude.{Result, Ok, Err, OnOk}
use Rattle.integer_tableau.proofs.Moves.{kept_of}
use Rattle.integer_tableau.proofs.Requests.{same_places, same_row}
use Rattle.integer_tableau.specs.Kept.{kept_at, row_in}
use Rattle.integer_tableau.proofs.dictionary_store.DictionaryStore.further_edge.Goals as goal

on_ok : {X E : Type 0} (P : Type 0) (r : Result X E) → P → OnOk r P
on_ok P (Ok x) h = h
on_ok P (Err e) h = tt

pub put_row-requires-clause-there : goal.put_row-requires-clause-there
put_row-requires-clause-there c = c.requires.there

pub put_row-requires-clause-kept : goal.put_row-requires-clause-kept
put_row-requires-clause-kept c =
    let k = c.requires.kept in
    (k.0, k.1, kept_of c.args.program_rows.now k.0 k.1 c.args.self.now.kept c.args.place c.requires.there k.2)

pub returns-in_err-put_row-clause-same : goal.returns-in_err-put_row-clause-same
returns-in_err-put_row-clause-same c = refl

pub returns-in_err-put_row-clause-kept : goal.returns-in_err-put_row-clause-kept
returns-in_err-put_row-clause-kept c = λ weight costs h. h

pub further_edge-requires-clause-kept : goal.further_edge-requires-clause-kept
further_edge-requires-clause-kept c =
    let k = c.requires.kept in
    let ps = c.args.program_rows.now in
    (ps, k.0, k.1, k.2, c.numerators-row.ensures ∙ c.in_ok-put_row.ensures ∙ ap (row_in ps (kept_at c.args.self.now.kept.all c.args.place)) (sym c.requires.variable))

pub further_edge-requires-clause-place_there : goal.further_edge-requires-clause-place_there
further_edge-requires-clause-place_there c = c.requires.there

pub further_edge-requires-clause-there : goal.further_edge-requires-clause-there
further_edge-requires-clause-there c = c.requires.exit_there

pub further_edge-requires-clause-from : goal.further_edge-requires-clause-from
further_edge-requires-clause-from c = c.requires.from

pub further_edge-requires-clause-at_upper_there : goal.further_edge-requires-clause-at_upper_there
further_edge-requires-clause-at_upper_there c = c.requires.kept.3.compact.consistent.at_upper

pub further_edge-requires-clause-bounds_there : goal.further_edge-requires-clause-bounds_there
further_edge-requires-clause-bounds_there c =
    let consistent = c.requires.kept.3.compact.consistent in
    consistent.bounds ∙ sym consistent.at_upper

pub further_edge-requires-clause-none : goal.further_edge-requires-clause-none
further_edge-requires-clause-none c = c.requires.none

pub returns-clause-same : goal.returns-clause-same
returns-clause-same c = c.further_edge.ensures.same

pub returns-clause-kept : goal.returns-clause-kept
returns-clause-kept c = λ weight costs are.
    let ps = c.args.program_rows.now in
    c.further_edge.ensures.kept ps weight costs (c.numerators-row.ensures ∙ c.in_ok-put_row.ensures ∙ ap (row_in ps (kept_at c.args.self.now.kept.all c.args.place)) (sym c.requires.variable)) are

pub returns-clause-row : goal.returns-clause-row
returns-clause-row c =
    let k = c.args.self.now.kept in
    let l = c.further_edge.new.self in
    on_ok _ c.further_edge.result
    (c.in_ok-put_row.ensures ∙ sym (same_row c.args.program_rows.now (kept_at k.all c.args.place) (kept_at l.all c.args.place) c.args.variable (same_places l k c.args.place c.further_edge.ensures.same c.requires.there)))
