use Rattle.std.proofs.Common.{◌≡◌, ◌∙◌, ℤ, [], get_or, length, map, sym, ap}
use Rattle.fraction.specs.Rational.{ℚ, whole}
use Rattle.integer_tableau.proofs.EntryRows.{entries_rise, row_of_entries}
use Rattle.integer_tableau.proofs.EntrySums.{length-spread}
use Rattle.integer_tableau.proofs.ScaledNumbers.{zero_scaled}
use Rattle.integer_tableau.specs.Entries.{entry_by}
use Rattle.integer_tableau.specs.Scales.{scaled_by}
use Rattle.integer_tableau.proofs.scaling.scaled_row.Goals as goal

pub make-requires : goal.make-requires
make-requires c =
    let f : ℤ → ℚ = λ z. scaled_by 1 c.args.scale (whole z) in
    let h : map (entry_by f) c.in-Some.entries.items ≡ c.entries.result.now = rw c.in-Some.is at c.in_ok-entries.ensures in
    entries_rise f c.columns.result (get_or c.args.program.now.rows c.args.row []) c.in-Some.entries.items (c.entries.ensures.width ∙ sym c.columns.ensures) (h ∙ c.entries.ensures.value)

pub returns-in-Some : goal.returns-in-Some
returns-in-Some c =
    let f : ℤ → ℚ = λ z. scaled_by 1 c.args.scale (whole z) in
    let h : map (entry_by f) c.in-Some.entries.items ≡ c.entries.result.now = rw c.in-Some.is at c.in_ok-entries.ensures in
    let es = c.in-Some.entries.items in
    record {
      value = ap (map f) c.make.ensures
          ∙ row_of_entries f c.columns.result (get_or c.args.program.now.rows c.args.row []) es (zero_scaled 1 c.args.scale) (c.entries.ensures.width ∙ sym c.columns.ensures) (h ∙ c.entries.ensures.value);
      width = ap length c.make.ensures ∙ length-spread 0 c.columns.result es ∙ c.columns.ensures;
    }
