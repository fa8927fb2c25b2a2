use Rattle.std.proofs.Common.{◌≡◌, ℕ, List, Option, None, [], refl, sym, ap, ◌∙◌, arith, set, get_or}
use Rattle.std.specs.Option.{unwrap_or}
use Rattle.fraction.specs.Rational.{ℚ}
use Rattle.mps_reader.specs.RowState.{RowState, kept_terms, bare_row}
use Rattle.mps_reader.proofs.RowTable.{entry_set, kept_at, kept_no_more, row_seen, within_entries}
use Rattle.mps_reader.specs.declared.row_table.RowEntry.TheVariants as entry
use Rattle.mps_reader.specs.declared.row_terms.TermRow.{TermRow}
use Rattle.mps_reader.proofs.row_table.RowTable.take_terms.Goals as goal

pub index-requires : goal.index-requires
index-requires c = omega (arith, within_entries c.self.inside.kept.items c.self.inside.entries.items c.args.self.now c.args.index c.self.view_is c.requires, c.self.inside.entries.ok.0)

pub index_mut-requires : goal.index_mut-requires
index_mut-requires c = omega (arith, within_entries c.self.inside.kept.items c.self.inside.entries.items c.args.self.now c.args.index c.self.view_is c.requires, c.self.inside.entries.ok.0)

pub returns-in-Some-clause-terms : goal.returns-in-Some-clause-terms
returns-in-Some-clause-terms c =
    let k = kept_at c.self.inside.kept.items c.self.inside.entries.items c.args.self.now c.args.index c.self.view_is c.requires c.index.result.now c.index.ensures _ c.deref.ensures.value c.in-Some.spot c.in-Some.ensures.within c.in-Some.ensures.entry c.in-Some.ensures.row c.index_mut-in-Some.result.now c.index_mut-in-Some.ensures.value in
    c.replace.ensures.value ∙ sym (ap kept_terms k.row)

pub returns-in-Some-clause-rows : goal.returns-in-Some-clause-rows
returns-in-Some-clause-rows c =
    let old = c.index_mut-in-Some.result.now in
    let k = kept_at c.self.inside.kept.items c.self.inside.entries.items c.args.self.now c.args.index c.self.view_is c.requires c.index.result.now c.index.ensures _ c.deref.ensures.value c.in-Some.spot c.in-Some.ensures.within c.in-Some.ensures.entry c.in-Some.ensures.row old c.index_mut-in-Some.ensures.value in
    let r : TermRow = record { row = old.row; named_by = old.named_by; terms = c.replace.new.dest } in
    kept_no_more c.args.index r k.own c.self.inside.kept.items c.in-Some.spot old k.there k.own c.self.inside.entries.items k.within ∙ ap (λ rs. set rs c.args.index bare_row) c.self.view_is

pub returns-in-None-clause-terms : goal.returns-in-None-clause-terms
returns-in-None-clause-terms c =
    let n : (get_or c.args.self.now c.args.index bare_row).terms ≡ None =
    ap (λ (s : RowState). s.terms) (row_seen c.self.inside.kept.items c.self.inside.entries.items c.args.self.now c.args.index c.self.view_is c.requires c.index.result.now c.index.ensures _ c.deref.ensures.value) ∙ c.in-None.ensures.none refl in
    c.new-none.ensures ∙ sym (ap (λ (o : Option (List (ℕ × ℚ))). unwrap_or o []) n)

pub returns-in-None-clause-rows : goal.returns-in-None-clause-rows
returns-in-None-clause-rows c =
    let kept = c.self.inside.kept.items in
    let entries = c.self.inside.entries.items in
    let i = c.args.index in
    let l = within_entries kept entries c.args.self.now i c.self.view_is c.requires in
    entry_set kept i entry.Unnamed entries l ∙ ap (λ rs. set rs i bare_row) c.self.view_is
