use Rattle.std.proofs.Common.{Option, ℕ, sym, ap, ◌∙◌, arith}
use Rattle.mps_reader.specs.RowState.{RowState, is_place}
use Rattle.mps_reader.proofs.RowTable.{row_seen, within_entries}
use Rattle.mps_reader.proofs.row_table.RowTable.is_named_by.Goals as goal

pub index-requires : goal.index-requires
index-requires c = omega (arith, within_entries c.self.inside.kept.items c.self.inside.entries.items c.args.self.now c.args.index c.self.view_is c.requires, c.self.inside.entries.ok.0)

pub returns-in-Some : goal.returns-in-Some
returns-in-Some c =
    sym (ap (λ (s : RowState). is_place s.named_by c.args.place) (row_seen c.self.inside.kept.items c.self.inside.entries.items c.args.self.now c.args.index c.self.view_is c.requires c.index.result.now c.index.ensures _ c.deref.ensures.value)
    ∙ ap (λ (o : Option ℕ). is_place o c.args.place) (sym c.last_place.ensures ∙ c.in-Some.is))

pub returns-in-None : goal.returns-in-None
returns-in-None c =
    sym (ap (λ (s : RowState). is_place s.named_by c.args.place) (row_seen c.self.inside.kept.items c.self.inside.entries.items c.args.self.now c.args.index c.self.view_is c.requires c.index.result.now c.index.ensures _ c.deref.ensures.value)
    ∙ ap (λ (o : Option ℕ). is_place o c.args.place) (sym c.last_place.ensures ∙ c.in-None.is))
