use Rattle.std.proofs.Common.{◌≡◌, ◌++◌, ◌∷◌, [], sym, ap, refl, ◌∙◌}
use Rattle.mps_lines.specs.Left.{seen}
use Rattle.mps_reader.specs.Faults.{row_fault}
use Rattle.mps_reader.specs.RowState.{new_row}
use Rattle.mps_reader.proofs.SectionTables.{rows_before, rows_hold}
use Rattle.mps_reader.specs.Sections.{row_entry, rows_of}
use Rattle.mps_reader.specs.Tables.{texts}
use Rattle.mps_reader.proofs.steps.rows_line.Goals as goal

pub returns-in-Ok-push-clause-line : goal.returns-in-Ok-push-clause-line
returns-in-Ok-push-clause-line g c s h l =
    let st = c.args.tables.now in
    let line = seen c.args.line.now in
    let fields = texts c.as_slice-fields.result.now in
    let v : fields ≡ line.fields = ap texts c.as_slice-fields.ensures.value in
    let o = sym h.order.last ∙ l in
    let k = c.in-Ok.ensures.ok in (
      (
        ap (λ fs. row_fault (rows_of s.rows) fs) (sym v) ∙ ap (λ rs. row_fault rs fields) (sym h.rows) ∙ k.0,
        rows_hold st s h o (record st { rows = c.row_line.new.rows; count = c.row_line.new.count; columns = record st.columns { rows = c.push.new.self } }) line refl
            (k.1 ∙ (λ i. h.rows i ++ row_entry (v i)))
            (c.in-Ok-push.ensures ∙ ap (λ rs. rs ++ new_row c.in-Ok.keeps ∷ []) (rows_before st s h o) ∙ c.in-Ok.ensures.keeps),
      ),
      tt,
    )
