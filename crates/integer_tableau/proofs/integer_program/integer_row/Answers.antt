use Rattle.std.proofs.Common.{◌≡◌, ◌∙◌, [], get_or, length, map, sym, ap, refl}
use Rattle.fraction.specs.Rational.{whole}
use Rattle.integer_tableau.proofs.EntryRows.{entries_rise, row_of_entries}
use Rattle.integer_tableau.proofs.EntrySums.{length-spread}
use Rattle.integer_tableau.specs.Entries.{entry_by}
use Rattle.integer_tableau.proofs.integer_program.integer_row.Goals as goal

pub make-requires : goal.make-requires
make-requires c =
    let h : map (entry_by whole) c.in-Some.entries.items ≡ c.entries.result.now = rw c.in-Some.is at c.in_ok-entries.ensures in
    entries_rise whole c.columns.result (get_or c.args.program.now.rows c.args.row []) c.in-Some.entries.items (c.entries.ensures.width ∙ sym c.columns.ensures) (h ∙ c.entries.ensures.value)

pub returns-in-Some : goal.returns-in-Some
returns-in-Some c =
    let h : map (entry_by whole) c.in-Some.entries.items ≡ c.entries.result.now = rw c.in-Some.is at c.in_ok-entries.ensures in
    let es = c.in-Some.entries.items in
    record {
      value = ap (map whole) c.make.ensures
          ∙ row_of_entries whole c.columns.result (get_or c.args.program.now.rows c.args.row []) es refl (c.entries.ensures.width ∙ sym c.columns.ensures) (h ∙ c.entries.ensures.value);
      width = ap length c.make.ensures ∙ length-spread 0 c.columns.result es ∙ c.columns.ensures;
    }
