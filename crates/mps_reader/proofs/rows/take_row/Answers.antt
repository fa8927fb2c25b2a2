use Rattle.std.proofs.Common.{◌≡◌, ◌++◌, ◌∷◌, [], Bool, true, false, not, is_some, ℕ, List, ◌==◌, ◌||◌, length, ap, sym, ◌∙◌, refl}
use Rattle.mps_reader.specs.Faults.{is_counted, counted}
use Rattle.mps_reader.specs.RowState.{new_row}
use Rattle.mps_reader.specs.RowsSoFar.{new_rows}
use Rattle.mps_reader.proofs.RowsSoFar.{rows_more}
use Rattle.mps_reader.proofs.TableLemmas.{length-table}
use Rattle.mps_reader.specs.Tables.{table}
use Rattle.mps_reader.specs.Words.{value_under}
use Rattle.mps_reader.specs.declared.kinds.RowType.{RowType}
use Rattle.mps_reader.proofs.rows.take_row.Goals as goal

more : (rows new : List (List ℕ × RowType)) (name : List ℕ) (kind : RowType) (keeps added : Bool) (count len : ℕ) → added ≡ true → added ≡ not (is_some (value_under rows name))
    → (added ≡ true → new ≡ rows ++ (name, kind) ∷ []) → count ≡ counted rows → len ≡ length rows → keeps ≡ (is_counted kind || (count == len)) → new_rows rows ++ new_row keeps ∷ [] ≡ new_rows new
more rows new name kind keeps added count len t n a c l k =
    (λ i. new_rows rows ++ new_row ((k ∙ (λ i. is_counted kind || (c i == l i))) i) ∷ [])
    ∙ rows_more rows name kind (absent (is_some (value_under rows name)) (sym n ∙ t)) ∙ ap new_rows (sym (a t))
  where
    absent : (b : Bool) → not b ≡ true → b ≡ false
    absent true h = sym h
    absent false h = refl

pub returns-else-count-ge-MOST_ROWS-clause-keeps : goal.returns-else-count-ge-MOST_ROWS-clause-keeps
returns-else-count-ge-MOST_ROWS-clause-keeps g c =
    more (table c.args.rows.now.entries) (table c.add.new.names.entries) c.args.name.now c.args.kind c.keeps_terms-keeps.result c.in-Ok-true.field-0 c.args.count.now c.len.result
    c.in-Ok-true.field-0-test c.in-Ok-true.ensures.new c.in-Ok-true.ensures.added c.requires (c.len.ensures.len ∙ sym (length-table c.args.rows.now.entries)) c.keeps_terms-keeps.ensures

pub returns-else-is_counted-clause-keeps : goal.returns-else-is_counted-clause-keeps
returns-else-is_counted-clause-keeps g c =
    more (table c.args.rows.now.entries) (table c.add.new.names.entries) c.args.name.now c.args.kind c.keeps_terms-keeps.result c.in-Ok-true.field-0 c.args.count.now c.len.result
    c.in-Ok-true.field-0-test c.in-Ok-true.ensures.new c.in-Ok-true.ensures.added c.requires (c.len.ensures.len ∙ sym (length-table c.args.rows.now.entries)) c.keeps_terms-keeps.ensures
