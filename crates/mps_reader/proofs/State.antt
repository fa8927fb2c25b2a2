-- Lemmas: the reader's tables after the lines before.
use Rattle.std.specs.Prelude.{◌≡◌, ℕ, Bool, true, false, cond, List, ◌∷◌, Option, Some, None, is_some, length, ◌<◌, ◌≤◌, ◌≢◌, []}
use Rattle.std.proofs.Common.{refl, sym, ap, ◌∙◌, arith, set, get_or, subst}
use Rattle.std.proofs.lemmas.List.{length-map}
use denote.Ref.{Bor}
use Rattle.mps_reader.specs.Faults.{is_repeated}
use Rattle.mps_reader.specs.Meaning.{objective_name, place}
use Rattle.mps_reader.specs.Lemmas.Named.{length_push, place_push, same_text}
use Rattle.mps_reader.specs.RowsSoFar.{IsNew, IsRowAt, last_place, named_last, row_so_far}
use Rattle.mps_reader.proofs.RowsSoFar.{entry_set, named_at, run_named}
use Rattle.mps_reader.specs.Sections.{Entry, columns_of, is_same, last_of, number, pairs_of, run_of, with_column}
use Rattle.mps_reader.proofs.TableLemmas.{length-table}
use Rattle.mps_reader.specs.Tables.{table, bytes_of, texts}
use Rattle.mps_reader.specs.Words.{value_under}
use Rattle.mps_reader.specs.declared.columns.Columns.{Columns}
use Rattle.mps_reader.specs.declared.kinds.Column.{Column}
use Rattle.mps_reader.specs.declared.kinds.RowType.{RowType}
use Rattle.mps_reader.specs.RowState.{RowState, is_place, with_number}
use Rattle.mps_reader.specs.State.{IsLastAt, HasEntries}
use Rattle.problem.specs.Limits.{most_columns}

-- ---- the names of an entry
module _ {B H : Type 0} (s : Columns B H) (es : List (Bor (List ℕ) × RowType)) (entries : List Entry) (h : HasEntries s (table es) entries) where
  pub rows_count : length s.rows ≡ length es
  rows_count = ap length h.terms ∙ length-map (table es) (row_so_far (objective_name (table es)) entries) ∙ length-table es

  pub last_same : (e : Entry) (same : Bool) → same ≡ is_same (bytes_of s.last) e.column → same ≡ is_same (last_of entries) e.column
  last_same e same k = k ∙ ap (λ o. is_same o e.column) h.last

  module _ (e : Entry) (i : ℕ) (d : RowState) (r : IsRowAt es e.row i) where
    named_by_is : (get_or s.rows i d).named_by ≡ named_last e.row entries
    named_by_is = ap (λ ts. (get_or ts i d).named_by) h.terms ∙ named_at (objective_name (table es)) entries e.row es i d r.at r.within

    -- the last column names the row
    pub repeated_same : true ≡ is_same (last_of entries) e.column → is_place (get_or s.rows i d).named_by s.place ≡ is_repeated (columns_of entries) (run_of entries) (is_same (last_of entries) e.column) e
    repeated_same k = ap (λ o. is_place o s.place) named_by_is ∙ by entries k h.place ∙ ap (λ (b : Bool). is_repeated (columns_of entries) (run_of entries) b e) k
      where
        by : (entries : List Entry) → true ≡ is_same (last_of entries) e.column → IsLastAt (columns_of entries) (last_of entries) s.place → is_place (named_last e.row entries) s.place ≡ is_some (value_under (run_of entries) e.row)
        by [] k l = cc
        by (c ∷ earlier) k l = let p : s.place ≡ last_place (c ∷ earlier) = omega (arith, l.1) in ap (is_place (named_last e.row (c ∷ earlier))) p ∙ sym (run_named e.row c earlier)

  pub repeated_new : (e : Entry) → false ≡ is_same (last_of entries) e.column → is_some (value_under (table s.columns.entries) e.column) ≡ is_repeated (columns_of entries) (run_of entries) (is_same (last_of entries) e.column) e
  repeated_new e k = ap (λ cs. is_some (value_under cs e.column)) h.columns ∙ ap (λ (b : Bool). is_repeated (columns_of entries) (run_of entries) b e) k

-- ---- one more entry
last_is : (o : Option (List ℕ)) (name : List ℕ) → true ≡ is_same o name → o ≡ Some name
last_is None name h = cc
last_is (Some last) name h = ap Some (sym (same_text name last (sym h)))

module _ (entries : List Entry) (e : Entry) (old : ℕ) where
  -- an entry's column is the last one then
  stands_now : (same : Bool) → same ≡ is_same (last_of entries) e.column → IsNew same (columns_of entries) e.column → IsLastAt (columns_of entries) (last_of entries) old
      → IsLastAt (with_column same (columns_of entries) e) (Some e.column) (cond same old (length (columns_of entries)))
  stands_now true k n h = by (last_of entries) (last_is (last_of entries) e.column k) h
    where
      by : (o : Option (List ℕ)) → o ≡ Some e.column → IsLastAt (columns_of entries) o old → IsLastAt (columns_of entries) (Some e.column) old
      by None f h = cc
      by (Some name) f h = let same : name ≡ e.column = cc in (ap (place (columns_of entries)) (sym same) ∙ h.0, h.1)
  stands_now false k n h =
      let c : Column = record { line = e.line; is_marked = e.is_marked } in
      (place_push (columns_of entries) e.column c (n refl).0, sym (length_push (columns_of entries) (e.column, c)))

module _ {B H : Type 0} (s : Columns B H) (es : List (Bor (List ℕ) × RowType)) (entries : List Entry) (e : Entry) (h : HasEntries s (table es) entries)
    (same : Bool) (k : same ≡ is_same (bytes_of s.last) e.column) (n : IsNew same (table s.columns.entries) e.column) where
  same_last : same ≡ is_same (last_of entries) e.column
  same_last = last_same s es entries h e same k

  new_name : IsNew same (columns_of entries) e.column
  new_name f = let m = n f in (ap (λ cs. is_some (value_under cs e.column)) (sym h.columns) ∙ m.0, subst (λ cs. length cs < most_columns) h.columns m.1)

  stands : IsLastAt (columns_of (e ∷ entries)) (Some e.column) (cond same s.place (length (columns_of entries)))
  stands = subst (λ (b : Bool). IsLastAt (with_column b (columns_of entries) e) (Some e.column) (cond same s.place (length (columns_of entries)))) same_last
      (stands_now entries e s.place same same_last new_name h.place)

  -- the state after an entry
  pub entry_held : (new : Columns B H) (i : ℕ) (d : RowState) → IsRowAt es e.row i → table new.columns.entries ≡ with_column same (table s.columns.entries) e
      → bytes_of new.last ≡ cond same (bytes_of s.last) (Some e.column) → new.place ≡ cond same s.place (length (table s.columns.entries))
      → new.rows ≡ set s.rows i (with_number new.place (number e.value) (get_or s.rows i d)) → HasEntries new (table es) (e ∷ entries)
  entry_held new i d r c l p t =
      let q : new.place ≡ cond same s.place (length (columns_of entries)) = p ∙ ap (λ cs. cond same s.place (length cs)) h.columns in
      let w : new.place ≡ last_place (e ∷ entries) = q ∙ omega (arith, stands.1) in
      record {
        columns = c ∙ (λ j. with_column (same_last j) (h.columns j) e);
        last = l ∙ by same same_last;
        place = subst (λ n. IsLastAt (columns_of (e ∷ entries)) (Some e.column) n) (sym q) stands;
        terms = t ∙ (λ j. set (h.terms j) i (with_number (w j) (number e.value) (get_or (h.terms j) i d))) ∙ entry_set (objective_name (table es)) e entries (stands.0 ∙ sym q ∙ w) es i d r;
      }
    where
      by : (b : Bool) → b ≡ is_same (last_of entries) e.column → cond b (bytes_of s.last) (Some e.column) ≡ Some e.column
      by true f = h.last ∙ last_is (last_of entries) e.column f
      by false f = refl

-- ---- the fields of a line
pub texts_two : (fields : List (Bor (List ℕ))) → 2 ≤ length fields → length fields < 3
    → texts fields ≡ (get_or fields 0 (record { ref_ptr = (0, 0); now = [] })).now ∷ (get_or fields 1 (record { ref_ptr = (0, 0); now = [] })).now ∷ []
texts_two [] l k = absurd (omega arith)
texts_two (a ∷ []) l k = absurd (omega arith)
texts_two (a ∷ b ∷ []) l k = refl
texts_two (a ∷ b ∷ c ∷ fields) l k = absurd (omega arith)

pub pairs_two : (fields : List (Bor (List ℕ))) → 2 ≤ length fields → length fields < 3
    → pairs_of (texts fields) ≡ Some (((get_or fields 0 (record { ref_ptr = (0, 0); now = [] })).now, (get_or fields 1 (record { ref_ptr = (0, 0); now = [] })).now) ∷ [])
pairs_two fields l k = ap pairs_of (texts_two fields l k)

pub pairs_four : (fields : List (Bor (List ℕ))) → 4 ≤ length fields → length fields < 5
    → pairs_of (texts fields) ≡ Some (
    ((get_or fields 0 (record { ref_ptr = (0, 0); now = [] })).now, (get_or fields 1 (record { ref_ptr = (0, 0); now = [] })).now)
    ∷ ((get_or fields 2 (record { ref_ptr = (0, 0); now = [] })).now, (get_or fields 3 (record { ref_ptr = (0, 0); now = [] })).now) ∷ [])
pairs_four [] l k = absurd (omega arith)
pairs_four (a ∷ []) l k = absurd (omega arith)
pairs_four (a ∷ b ∷ []) l k = absurd (omega arith)
pairs_four (a ∷ b ∷ c ∷ []) l k = absurd (omega arith)
pairs_four (a ∷ b ∷ c ∷ d ∷ []) l k = refl
pairs_four (a ∷ b ∷ c ∷ d ∷ e ∷ fields) l k = absurd (omega arith)

-- other counts than two and four are no pairs
pub pairs_none : (fields : List (Bor (List ℕ))) → length fields ≢ 2 → length fields ≢ 4 → pairs_of (texts fields) ≡ None
pairs_none [] h k = refl
pairs_none (a ∷ []) h k = refl
pairs_none (a ∷ b ∷ []) h k = absurd (h refl)
pairs_none (a ∷ b ∷ c ∷ []) h k = refl
pairs_none (a ∷ b ∷ c ∷ d ∷ []) h k = absurd (k refl)
pairs_none (a ∷ b ∷ c ∷ d ∷ e ∷ fields) h k = refl
