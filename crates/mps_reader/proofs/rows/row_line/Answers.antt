use Rattle.std.proofs.Common.{◌≡◌, ◌≢◌, ◌++◌, ◌∷◌, [], ℕ, List, Some, None, Bool, Result, Ok, Err, OnOk, length, get_or, refl, sym, ap, ◌∙◌, subst, arith}
use Rattle.std.specs.Prelude.{IfErr}
use denote.Ref.{Bor}
use Rattle.mps_reader.proofs.State.{texts_two}
use Rattle.mps_reader.specs.Faults.{row_fault, typed_row_fault}
use Rattle.mps_reader.specs.Sections.{DeclaredRows, row_entry, row_typed}
use Rattle.mps_reader.specs.Tables.{Stops, table, texts}
use Rattle.mps_reader.specs.declared.kinds.Kind.TheVariants as kind
use Rattle.mps_reader.specs.declared.kinds.RowType.{RowType}
use Rattle.mps_reader.specs.declared.kinds.Stop.{Stop}
use Rattle.mps_reader.proofs.rows.row_line.Goals as goal

bad_fields : (rows : DeclaredRows) (fields : List (Bor (List ℕ))) → length fields ≢ 2 → row_fault rows (texts fields) ≡ Some kind.BadFields
bad_fields rows [] h = refl
bad_fields rows (a ∷ []) h = refl
bad_fields rows (a ∷ b ∷ []) h = absurd (h refl)
bad_fields rows (a ∷ b ∷ c ∷ fields) h = refl

taken : (r : Result Bool Stop) (rows new : DeclaredRows) (fields : List (List ℕ)) (name : List ℕ) (type : RowType) → row_fault rows fields ≡ typed_row_fault rows name (Some type) → row_entry fields ≡ (name, type) ∷ []
    → OnOk r (typed_row_fault rows name (Some type) ≡ None) → OnOk r (new ≡ rows ++ (name, type) ∷ []) → OnOk r ((row_fault rows fields ≡ None) × (new ≡ rows ++ row_entry fields))
taken (Ok b) rows new fields name type e f h k = (e ∙ h, k ∙ ap (λ rs. rows ++ rs) (sym f))
taken (Err x) rows new fields name type e f h k = tt

pub returns-in_default-clause-err : goal.returns-in_default-clause-err
returns-in_default-clause-err g c = bad_fields (table c.args.rows.now.entries) c.args.fields.now (omega arith)

pub returns-in_default-2-clause-err : goal.returns-in_default-2-clause-err
returns-in_default-2-clause-err g c = bad_fields (table c.args.rows.now.entries) c.args.fields.now (omega arith)

pub returns-in_default-row_type_of-clause-err : goal.returns-in_default-row_type_of-clause-err
returns-in_default-row_type_of-clause-err g c =
    let fields = c.args.fields.now in
    let rows = table c.args.rows.now.entries in
    ap (row_fault rows) (texts_two fields c.in-len2.len_at_least c.in-len2.len_below)
    ∙ ap (typed_row_fault rows (get_or fields 1 (record { ref_ptr = (0, 0); now = [] })).now) (sym c.row_type_of.ensures ∙ c.in_default-row_type_of.is)

pub returns-clause-ok : goal.returns-clause-ok
returns-clause-ok g c =
    let fields = c.args.fields.now in
    let rows = table c.args.rows.now.entries in
    let name : List ℕ = (get_or fields 1 (record { ref_ptr = (0, 0); now = [] })).now in
    let two = texts_two fields c.in-len2.len_at_least c.in-len2.len_below in
    taken c.take_row.result rows (table c.take_row.new.rows.entries) (texts fields) name c.in-Some.kind
    (ap (row_fault rows) two ∙ ap (typed_row_fault rows name) (sym c.row_type_of.ensures ∙ c.in-Some.is))
    (ap row_entry two ∙ ap (row_typed name) (sym c.row_type_of.ensures ∙ c.in-Some.is))
    c.take_row.ensures.fault c.take_row.ensures.row

pub returns-clause-keeps : goal.returns-clause-keeps
returns-clause-keeps g c = c.take_row.ensures.keeps

pub returns-clause-err : goal.returns-clause-err
returns-clause-err g c =
    let fields = c.args.fields.now in
    let rows = table c.args.rows.now.entries in
    let name : List ℕ = (get_or fields 1 (record { ref_ptr = (0, 0); now = [] })).now in
    subst (λ f. IfErr c.take_row.result (λ e. Stops e f))
    (ap (typed_row_fault rows name) (sym c.in-Some.is ∙ c.row_type_of.ensures) ∙ ap (row_fault rows) (sym (texts_two fields c.in-len2.len_at_least c.in-len2.len_below)))
    c.take_row.ensures.err

pub returns-clause-count : goal.returns-clause-count
returns-clause-count g c = c.take_row.ensures.count
