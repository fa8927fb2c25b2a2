use Rattle.std.proofs.Common.{arith, ◌≡◌, None, Some, ℕ, refl, sym, ap, ◌∙◌, set, get_or}
use Rattle.std.specs.Option.{option_map}
use Rattle.std.proofs.lemmas.Result.{on_ok_weaker}
use Rattle.fraction.specs.Rational.{ℚ}
use Rattle.mps_reader.specs.RowState.{RowState, bare_row, with_number, with_term}
use Rattle.mps_reader.proofs.RowTable.{entry_set, kept_again, kept_at, row_seen, within_entries}
use Rattle.mps_reader.specs.RowTable.{state_at, state_of}
use Rattle.mps_reader.specs.declared.row_table.RowEntry.TheVariants as entry
use Rattle.mps_reader.proofs.row_table.RowTable.take.Goals as goal

pub index-requires : goal.index-requires
index-requires c = omega (arith, within_entries c.self.inside.kept.items c.self.inside.entries.items c.args.self.now c.args.index c.self.view_is c.requires, c.self.inside.entries.ok.0)

pub index_mut-requires-in-None : goal.index_mut-requires-in-None
index_mut-requires-in-None c = omega (arith, within_entries c.self.inside.kept.items c.self.inside.entries.items c.args.self.now c.args.index c.self.view_is c.requires, c.self.inside.entries.ok.0)

pub returns-in-Some : goal.returns-in-Some
returns-in-Some c =
    let kept = c.self.inside.kept.items in
    let i = c.args.index in
    let old = c.index_mut.result.now in
    let r = c.take.new.self in
    let k = kept_at c.self.inside.kept.items c.self.inside.entries.items c.args.self.now c.args.index c.self.view_is c.requires c.index.result.now c.index.ensures _ c.deref.ensures.value c.in-Some.spot c.in-Some.ensures.within c.in-Some.ensures.entry c.in-Some.ensures.row old c.index_mut.ensures.value in
    on_ok_weaker c.take.result (λ t. kept_again i r (c.take.ensures.row ∙ k.own) kept c.in-Some.spot old k.there k.own c.self.inside.entries.items k.entry k.within ∙ ap (λ rs. set rs i (state_of r)) c.self.view_is
    ∙ ap (set c.args.self.now i) ((λ j. record { terms = Some (t j); named_by = c.take.ensures.named_by j }) ∙ ap (with_number c.args.place c.args.number) (sym k.row)))
    c.take.ensures.terms

without_terms : (p : ℕ) (q : ℚ) (s : RowState) → s.terms ≡ None → with_number p q s ≡ record { terms = None; named_by = Some p }
without_terms p q s h = λ j. record { terms = option_map (with_term p q) (h j); named_by = Some p }

pub returns-in-None : goal.returns-in-None
returns-in-None c =
    let kept = c.self.inside.kept.items in
    let entries = c.self.inside.entries.items in
    let i = c.args.index in
    let n : (get_or c.args.self.now i bare_row).terms ≡ None =
    ap (λ (s : RowState). s.terms) (row_seen c.self.inside.kept.items c.self.inside.entries.items c.args.self.now c.args.index c.self.view_is c.requires c.index.result.now c.index.ensures _ c.deref.ensures.value) ∙ c.in-None.ensures.none refl in
    entry_set kept i (entry.NamedBy c.args.place) entries (within_entries kept entries c.args.self.now i c.self.view_is c.requires) ∙ ap (λ rs. set rs i (state_at kept i (entry.NamedBy c.args.place))) c.self.view_is
    ∙ ap (set c.args.self.now i) (sym (without_terms c.args.place c.args.number (get_or c.args.self.now i bare_row) n))
