-- Lemmas: lines without a fault keep to the limits of a problem.
use Rattle.std.specs.Prelude.{◌≡◌, ℕ, ◌+◌, ◌-◌, ◌<◌, ◌≤◌, Bool, true, false, ◌&&◌, not, nat_le, nat_lt, if◌then◌else◌, cond, List, ◌∷◌, ◌++◌, Option, Some, None, is_some, length, drop, suc, []}
use Rattle.std.specs.Option.{option_or}
use Rattle.std.specs.List.{list_all}
use Rattle.std.specs.Str.{bytes_eq}
use Rattle.std.proofs.Common.{refl, sym, ap, ◌∙◌, subst, arith, append-nil}
use Rattle.std.proofs.lemmas.Bool.{and_from, and_parts, not-false}
use Rattle.std.proofs.lemmas.List.Folds.{list_all-append}
use Rattle.std.proofs.lemmas.List.Sums.{sum_by-append}
use Rattle.std.proofs.lemmas.Option.{same_Some}
use Rattle.fraction.specs.Rational.{ℚ, whole}
use Rattle.mps_lines.specs.Lines.{Line}
use Rattle.mps_lines.specs.Infinities.{infinite}
use Rattle.mps_reader.specs.Faults.{◌<|>◌, when, is_field, is_counted, counted, number_fault, typed_row_fault, row_fault, is_repeated, names_fault, entry_fault, pairs_fault, column_fault, side_fault, sides_fault, side_line_fault, limits_fields, section_fault, data_fault_in, word_fault, line_fault, differs}
use Rattle.mps_reader.specs.Meaning.{place, is_zero}
use Rattle.mps_reader.specs.Lemmas.Modest.{modest_number}
use Rattle.mps_reader.specs.Lemmas.Named.{same_text, bytes_flip, value_under_push, place_push, length_push}
use Rattle.mps_reader.specs.Lemmas.Placing.{terms_in-append, placed_of, terms_in, term_in}
use Rattle.mps_reader.specs.Sections.{Sections, none_yet, last_word, with_line, with_data_in, with_word, first_field, rows_of, row_entry, row_typed, Entry, entry, entries_of, columns_of, run_of, last_of, is_same, with_column, with_run, with_pairs, with_column_line, pairs_of, marker, is_behind_intorg, number, sides, sides_of, side_set, with_sides}
use Rattle.mps_reader.specs.Words.{value_under, section_of, row_type_of}
use Rattle.mps_reader.specs.declared.kinds.Column.{Column}
use Rattle.mps_reader.specs.declared.kinds.Kind.{Kind}
use Rattle.mps_reader.specs.declared.kinds.Kind.TheVariants as kind
use Rattle.mps_reader.specs.declared.kinds.RowType.{RowType}
use Rattle.mps_reader.specs.declared.kinds.Section.{Section}
use Rattle.mps_reader.specs.declared.kinds.Section.TheVariants as section
use Rattle.mps_reader.specs.VisibleNames.{is_visible}
use Rattle.mps_reader.specs.Lemmas.Limits.{is_modest, limited_from, reach, KeepsEntries, AreKept, are_modest_sides, KeepsLimits}
use Rattle.problem.specs.Limits.{most_columns, most_rows}

-- ---- tests
lt_of : (a b : ℕ) → nat_lt a b ≡ true → a < b
lt_of a b h = grind arith

of_lt : (a b : ℕ) → a < b → nat_lt a b ≡ true
of_lt a b h = grind arith

of_le : (a b : ℕ) → a ≤ b → nat_le a b ≡ true
of_le a b h = grind arith

pub below_of : (a b : ℕ) → nat_le a b ≡ false → b < a
below_of a b h = grind arith

-- of two faults that don't come neither does
pub none_both : (a b : Option Kind) → (a <|> b) ≡ None → (a ≡ None) × (b ≡ None)
none_both None b h = (refl, h)
none_both (Some k) b h = cc

pub none_when : (b : Bool) (k : Kind) → when b k ≡ None → b ≡ false
none_when true k h = cc
none_when false k h = refl

is_none : {A : Type 0} (o : Option A) → o ≡ None → is_some o ≡ false
is_none o h = ap is_some h

-- ---- terms of a row
pub limited_wider : (n m k : ℕ) (ts : List (ℕ × ℚ)) → n ≤ m → limited_from n k ts ≡ true → limited_from m k ts ≡ true
limited_wider n m k [] l h = refl
limited_wider n m k (t ∷ ts) l h =
    let a = and_parts (nat_lt t.0 n) _ h in
    let b = and_parts (nat_le k t.0) _ a.1 in
    let c = and_parts (is_modest t.1) _ b.1 in
    let d = and_parts (not (is_zero t.1)) _ c.1 in
    and_from _ _ (of_lt t.0 m (omega (arith, l, lt_of t.0 n a.0))) (and_from _ _ b.0 (and_from _ _ c.0 (and_from _ _ d.0 (limited_wider n m (suc t.0) ts l d.1))))

limited_push : (n k : ℕ) (ts : List (ℕ × ℚ)) (q : ℚ) → k ≤ n → limited_from n k ts ≡ true → is_modest q ≡ true → not (is_zero q) ≡ true → limited_from (suc n) k (ts ++ (n, q) ∷ []) ≡ true
limited_push n k [] q l h m z = and_from _ _ (of_lt n (suc n) (omega arith)) (and_from _ _ (of_le k n l) (and_from _ _ m (and_from _ _ z refl)))
limited_push n k (t ∷ ts) q l h m z =
    let a = and_parts (nat_lt t.0 n) _ h in
    let b = and_parts (nat_le k t.0) _ a.1 in
    let c = and_parts (is_modest t.1) _ b.1 in
    let d = and_parts (not (is_zero t.1)) _ c.1 in
    let lt = lt_of t.0 n a.0 in
    and_from _ _ (of_lt t.0 (suc n) (omega (arith, lt))) (and_from _ _ b.0 (and_from _ _ c.0 (and_from _ _ d.0 (limited_push n (suc t.0) ts q (omega (arith, lt)) d.1 m z))))

pub reach_le : (r : Option ℚ) (n : ℕ) → reach r n ≤ n
reach_le None n = omega arith
reach_le (Some q) n = omega arith

-- one more entry in the last column, of this row (hit) or of another
terms_push : (p : ℕ) (old : List (ℕ × ℚ)) (r : Option ℚ) (hit : Bool) (q : ℚ) → (hit ≡ true → r ≡ None) → is_modest q ≡ true → limited_from (reach r (suc p)) 0 old ≡ true
    → limited_from (reach (option_or r (cond hit (Some q) None)) (suc p)) 0 (old ++ (if hit && not (is_zero q) then (p, q) ∷ [] else [])) ≡ true
terms_push p old None false q f m h = ap (limited_from (suc p - 1) 0) (append-nil old) ∙ h
terms_push p old (Some x) false q f m h = ap (limited_from (suc p) 0) (append-nil old) ∙ h
terms_push p old (Some x) true q f m h = let e = f refl in cc
terms_push p old None true q f m h = by (not (is_zero q)) refl
  where
    before : limited_from p 0 old ≡ true
    before = let e : suc p - 1 ≡ p = omega arith in subst (λ n. limited_from n 0 old ≡ true) e h

    by : (z : Bool) → not (is_zero q) ≡ z → limited_from (suc p) 0 (old ++ (if z then (p, q) ∷ [] else [])) ≡ true
    by true e = limited_push p 0 old q (omega arith) before m e
    by false e = ap (limited_from (suc p) 0) (append-nil old) ∙ limited_wider p (suc p) 0 old (omega arith) before

abbrev Placed : Type 0
Placed = List ℕ × (ℕ × ℚ)

places_wider : (n m : ℕ) (ts : List Placed) → n ≤ m → list_all (λ t. nat_lt t.1.0 n) ts ≡ true → list_all (λ t. nat_lt t.1.0 m) ts ≡ true
places_wider n m [] l h = refl
places_wider n m (t ∷ ts) l h = let a = and_parts (nat_lt t.1.0 n) _ h in and_from _ _ (of_lt t.1.0 m (omega (arith, l, lt_of t.1.0 n a.0))) (places_wider n m ts l a.1)

places_push : (p : ℕ) (ts : List Placed) (row : List ℕ) (q : ℚ) → list_all (λ t. nat_lt t.1.0 (suc p)) ts ≡ true → list_all (λ t. nat_lt t.1.0 (suc p)) (ts ++ (row, (p, q)) ∷ []) ≡ true
places_push p ts row q h = list_all-append (λ t. nat_lt t.1.0 (suc p)) ts ((row, (p, q)) ∷ []) ∙ and_from _ _ h (and_from _ _ (of_lt p (suc p) (omega arith)) refl)

-- one more entry: the terms of a row
module _ (p : ℕ) (run : List (List ℕ × ℚ)) (ts : List Placed) (row : List ℕ) (q : ℚ) (m : is_modest q ≡ true) (fresh : is_some (value_under run row) ≡ false) where
  terms_more : (name : List ℕ) → limited_from (reach (value_under run name) (suc p)) 0 (terms_in name ts) ≡ true
      → limited_from (reach (value_under (run ++ (row, q) ∷ []) name) (suc p)) 0 (terms_in name (ts ++ (row, (p, q)) ∷ [])) ≡ true
  terms_more name h =
      (λ i. limited_from (reach (value_under_push run row q name i) (suc p)) 0 ((terms_in-append name ts ((row, (p, q)) ∷ []) ∙ ap (λ l. terms_in name ts ++ l) (append-nil (term_in name (row, (p, q))))) i))
      ∙ (λ i. limited_from (reach (option_or (value_under run name) (cond (bytes_flip name row i) (Some q) None)) (suc p)) 0 (terms_in name ts ++ term_in name (row, (p, q))))
      ∙ terms_push p (terms_in name ts) (value_under run name) (bytes_eq row name) q hit m h
    where
      none_of : (o : Option ℚ) → is_some o ≡ false → o ≡ None
      none_of None h = refl
      none_of (Some x) h = cc

      hit : bytes_eq row name ≡ true → value_under run name ≡ None
      hit e = ap (value_under run) (sym (same_text row name e)) ∙ none_of (value_under run row) fresh

-- one more entry in the last column
keeps_same : (cs : List (List ℕ × Column)) (run : List (List ℕ × ℚ)) (last : Option (List ℕ)) (ts : List Placed) (column row : List ℕ) (q : ℚ) → KeepsEntries cs run last ts
    → is_same last column ≡ true → is_some (value_under run row) ≡ false → is_modest q ≡ true
    → KeepsEntries cs (run ++ (row, q) ∷ []) (Some column) (ts ++ (row, (place cs column, q)) ∷ [])
keeps_same cs run None ts column row q h s f m = cc
keeps_same cs run (Some l) ts column row q h s f m =
    let e : column ≡ l = same_text column l s in
    let n : suc (place cs column) ≡ length cs = omega (arith, ap (λ c. place cs c) e, h.last_is l refl) in
    record {
      few = h.few;
      last_is = λ c k. ap (λ d. place cs d + 1) (sym (same_Some column c k)) ∙ omega (arith, n);
      terms = λ name. subst (λ n. limited_from (reach (value_under (run ++ (row, q) ∷ []) name) n) 0 (terms_in name (ts ++ (row, (place cs column, q)) ∷ [])) ≡ true) n
          (terms_more (place cs column) run ts row q m f name (subst (λ n. limited_from (reach (value_under run name) n) 0 (terms_in name ts) ≡ true) (sym n) (h.terms name)));
      places = subst (λ n. list_all (λ t. nat_lt t.1.0 n) (ts ++ (row, (place cs column, q)) ∷ []) ≡ true) n
          (places_push (place cs column) ts row q (subst (λ n. list_all (λ t. nat_lt t.1.0 n) ts ≡ true) (sym n) h.places));
      names = h.names;
    }

-- the first entry of a new column
keeps_new : (cs : List (List ℕ × Column)) (run : List (List ℕ × ℚ)) (last : Option (List ℕ)) (ts : List Placed) (column row : List ℕ) (q : ℚ) (at : Column) → KeepsEntries cs run last ts
    → is_some (value_under cs column) ≡ false → length cs < most_columns → is_visible column ≡ true → is_modest q ≡ true
    → KeepsEntries (cs ++ (column, at) ∷ []) ((row, q) ∷ []) (Some column) (ts ++ (row, (place (cs ++ (column, at) ∷ []) column, q)) ∷ [])
keeps_new cs run last ts column row q at h f l v m =
    let p : place (cs ++ (column, at) ∷ []) column ≡ length cs = place_push cs column at f in
    let n : suc (length cs) ≡ length (cs ++ (column, at) ∷ []) = sym (length_push cs (column, at)) in
    record {
      few = omega (arith, l, n);
      last_is = λ c k. ap (λ d. place (cs ++ (column, at) ∷ []) d + 1) (sym (same_Some column c k)) ∙ omega (arith, n, p);
      terms = λ name. subst (λ n. limited_from (reach (value_under ((row, q) ∷ []) name) n) 0 (terms_in name (ts ++ (row, (place (cs ++ (column, at) ∷ []) column, q)) ∷ [])) ≡ true) n
          (subst (λ p. limited_from (reach (value_under ((row, q) ∷ []) name) (suc (length cs))) 0 (terms_in name (ts ++ (row, (p, q)) ∷ [])) ≡ true) (sym p)
          (terms_more (length cs) [] ts row q m refl name (before name)));
      places = subst (λ n. list_all (λ t. nat_lt t.1.0 n) (ts ++ (row, (place (cs ++ (column, at) ∷ []) column, q)) ∷ []) ≡ true) n
          (subst (λ p. list_all (λ t. nat_lt t.1.0 (suc (length cs))) (ts ++ (row, (p, q)) ∷ []) ≡ true) (sym p)
          (places_push (length cs) ts row q (places_wider (length cs) (suc (length cs)) ts (omega arith) h.places)));
      names = list_all-append (λ c. is_visible c.0) cs ((column, at) ∷ []) ∙ and_from _ _ h.names (and_from _ _ v refl);
    }
  where
    before : (name : List ℕ) → limited_from (suc (length cs) - 1) 0 (terms_in name ts) ≡ true
    before name = limited_wider (reach (value_under run name) (length cs)) (suc (length cs) - 1) 0 (terms_in name ts) (omega (arith, reach_le (value_under run name) (length cs))) (h.terms name)

module _ (rows : List (List ℕ × RowType)) (entries : List Entry) (e : Entry) (h : AreKept entries) (v : is_visible e.column ≡ true) where
  entry_by : (same : Bool) → is_same (last_of entries) e.column ≡ same
      → (when (not (is_some (value_under rows e.row))) kind.UnknownRow <|> when (is_repeated (columns_of entries) (run_of entries) same e) kind.Duplicate <|> when (not same && nat_le most_columns (length (columns_of entries))) kind.TooMany) ≡ None
      → number_fault e.value ≡ None
      → KeepsEntries (with_column same (columns_of entries) e) (with_run same (run_of entries) e) (Some e.column)
      (placed_of entries ++ (e.row, (place (with_column same (columns_of entries) e) e.column, number e.value)) ∷ [])
  entry_by true s f n =
      let a = none_both (when (not (is_some (value_under rows e.row))) kind.UnknownRow) _ f in
      let b = none_both (when (is_some (value_under (run_of entries) e.row)) kind.Duplicate) _ a.1 in
      keeps_same (columns_of entries) (run_of entries) (last_of entries) (placed_of entries) e.column e.row (number e.value) h s
      (none_when _ kind.Duplicate b.0) (modest_number e.value (is_none (number_fault e.value) n))
  entry_by false s f n =
      let a = none_both (when (not (is_some (value_under rows e.row))) kind.UnknownRow) _ f in
      let b = none_both (when (is_some (value_under (columns_of entries) e.column)) kind.Duplicate) _ a.1 in
      keeps_new (columns_of entries) (run_of entries) (last_of entries) (placed_of entries) e.column e.row (number e.value) _ h
      (none_when _ kind.Duplicate b.0) (below_of most_columns (length (columns_of entries)) (none_when _ kind.TooMany b.1)) v (modest_number e.value (is_none (number_fault e.value) n))

  entry_more : entry_fault rows entries e ≡ None → AreKept (e ∷ entries)
  entry_more f = let a = none_both (names_fault rows entries e) (number_fault e.value) f in entry_by (is_same (last_of entries) e.column) refl a.0 a.1

pairs_more : (rows : List (List ℕ × RowType)) (line : ℕ) (whole : Bool) (column : List ℕ) (pairs : List (List ℕ × List ℕ)) (entries : List Entry) → is_visible column ≡ true → AreKept entries
    → pairs_fault rows (entry line whole column) entries (Some pairs) ≡ None → AreKept (with_pairs (entry line whole column) (Some pairs) entries)
pairs_more rows line whole column [] entries v h f = h
pairs_more rows line whole column (pair ∷ pairs) entries v h f =
    let a = none_both (entry_fault rows entries (entry line whole column pair)) _ f in
    pairs_more rows line whole column pairs (entry line whole column pair ∷ entries) v (entry_more rows entries (entry line whole column pair) h v a.0) a.1

some_pairs_more : (rows : List (List ℕ × RowType)) (line : ℕ) (whole : Bool) (column : List ℕ) (pairs : Option (List (List ℕ × List ℕ))) (entries : List Entry) → is_visible column ≡ true → AreKept entries
    → pairs_fault rows (entry line whole column) entries pairs ≡ None → AreKept (with_pairs (entry line whole column) pairs entries)
some_pairs_more rows line whole column None entries v h f = h
some_pairs_more rows line whole column (Some pairs) entries v h f = pairs_more rows line whole column pairs entries v h f

visible_first : (field : List ℕ) (fields : List (List ℕ)) → list_all is_field (field ∷ fields) ≡ true → is_visible field ≡ true
visible_first field fields h =
    let a = and_parts (is_field field) _ h in
    (and_parts (nat_lt 0 (length field) && nat_le (length field) 255) (is_visible field) a.0).1

columns_more : (rows : List (List ℕ × RowType)) (earlier : List Line) (number : ℕ) (which : Option Bool) (fields : List (List ℕ)) → AreKept (entries_of earlier) → list_all is_field fields ≡ true
    → column_fault rows earlier number which fields ≡ None → AreKept (with_column_line number (is_behind_intorg earlier) which fields (entries_of earlier))
columns_more rows earlier number (Some which) fields h a f = h
columns_more rows earlier number None [] h a f = h
columns_more rows earlier number None (column ∷ rest) h a f =
    some_pairs_more rows number (is_behind_intorg earlier) column (pairs_of rest) (entries_of earlier) (visible_first column rest a) h f

-- ---- rows and sides
abbrev one_if : Bool → ℕ
one_if b = cond b 1 0

counted_more : (rows : List (List ℕ × RowType)) (name : List ℕ) (type : Option RowType) → counted rows ≤ most_rows → typed_row_fault rows name type ≡ None → counted (rows ++ row_typed name type) ≤ most_rows
counted_more rows name None h f = cc
counted_more rows name (Some type) h f =
    let a = none_both (when (is_some (value_under rows name)) kind.Duplicate) _ f in
    by (is_counted type) refl (none_when _ kind.TooMany a.1)
  where
    by : (b : Bool) → is_counted type ≡ b → (b && nat_le most_rows (counted rows)) ≡ false → counted (rows ++ (name, type) ∷ []) ≤ most_rows
    by true e k = let l = below_of most_rows (counted rows) k in omega (arith, l, sum_by-append (λ r. cond (is_counted r.1) 1 0) rows ((name, type) ∷ []), ap one_if e)
    by false e k = omega (arith, h, sum_by-append (λ r. cond (is_counted r.1) 1 0) rows ((name, type) ∷ []), ap one_if e)

rows_more : (rows : List (List ℕ × RowType)) (fields : List (List ℕ)) → counted rows ≤ most_rows → row_fault rows fields ≡ None → counted (rows ++ row_entry fields) ≤ most_rows
rows_more rows [] h f = cc
rows_more rows (a ∷ []) h f = cc
rows_more rows (type ∷ name ∷ []) h f = counted_more rows name (row_type_of type) h f
rows_more rows (a ∷ b ∷ c ∷ fields) h f = cc

pub new_sides : (ranged : Bool) (rows : List (List ℕ × RowType)) (before pairs : List (List ℕ × List ℕ)) → sides_fault ranged rows before pairs ≡ None → are_modest_sides pairs ≡ true
new_sides ranged rows before [] f = refl
new_sides ranged rows before (pair ∷ pairs) f =
    let d = none_both (side_fault ranged rows before pair) _ f in
    let a = none_both (when (not (is_some (value_under rows pair.0))) kind.UnknownRow) _ d.0 in
    let b = none_both (when (is_some (value_under before pair.0)) kind.Duplicate) _ a.1 in
    let c = none_both (when _ kind.TooMany) _ b.1 in
    let e = none_both (when (is_some (infinite pair.1)) kind.Infinite) _ c.1 in
    and_from _ _ (modest_number pair.1 (is_none (number_fault pair.1) e.1)) (new_sides ranged rows (before ++ pair ∷ []) pairs d.1)

sides_more : (rows : List (List ℕ × RowType)) (earlier : List Line) (s : Option (Option (List ℕ) × List (List ℕ × List ℕ))) → are_modest_sides (sides_of earlier) ≡ true
    → side_line_fault false rows earlier s ≡ None → are_modest_sides (with_sides s (sides_of earlier)) ≡ true
sides_more rows earlier None h f = cc
sides_more rows earlier (Some s) h f =
    let a = none_both (when (differs (side_set earlier) s.0) kind.ManySets) _ f in
    list_all-append (λ p. is_modest (number p.1)) (sides_of earlier) s.1 ∙ and_from _ _ h (new_sides false rows (sides_of earlier) s.1 a.1)

data_more : (word : Option Section) (s : Sections) (line : Line) → KeepsLimits s → data_fault_in word s line ≡ None → KeepsLimits (with_data_in word s line)
data_more word s line h f = let a = none_both (when (limits_fields word && not (list_all is_field line.fields)) kind.BadFields) _ f in by word (none_when _ kind.BadFields a.0) a.1
  where
    by : (word : Option Section) → (limits_fields word && not (list_all is_field line.fields)) ≡ false → section_fault word s line ≡ None → KeepsLimits (with_data_in word s line)
    by None a f = h
    by (Some section.Name) a f = h
    by (Some section.EndData) a f = h
    by (Some section.ObjSense) a f = record { rows = h.rows; columns = h.columns; sides = h.sides }
    by (Some section.Rows) a f = record { rows = rows_more (rows_of s.rows) line.fields h.rows f; columns = h.columns; sides = h.sides }
    by (Some section.Columns) a f = record { rows = h.rows; columns = columns_more (rows_of s.rows) s.columns line.number (marker line.fields) line.fields h.columns (not-false _ a) f; sides = h.sides }
    by (Some section.Rhs) a f = record { rows = h.rows; columns = h.columns; sides = sides_more (rows_of s.rows) s.rhs (sides line.fields) h.sides f }
    by (Some section.Ranges) a f = record { rows = h.rows; columns = h.columns; sides = h.sides }
    by (Some section.Bounds) a f = record { rows = h.rows; columns = h.columns; sides = h.sides }

word_more : (word : Option Section) (s : Sections) (line : Line) → KeepsLimits s → KeepsLimits (with_word word s line)
word_more None s line h = h
word_more (Some section.Name) s line h = record { rows = h.rows; columns = h.columns; sides = h.sides }
word_more (Some section.ObjSense) s line h = record { rows = h.rows; columns = h.columns; sides = h.sides }
word_more (Some section.Rows) s line h = record { rows = h.rows; columns = h.columns; sides = h.sides }
word_more (Some section.Columns) s line h = record { rows = h.rows; columns = h.columns; sides = h.sides }
word_more (Some section.Rhs) s line h = record { rows = h.rows; columns = h.columns; sides = h.sides }
word_more (Some section.Ranges) s line h = record { rows = h.rows; columns = h.columns; sides = h.sides }
word_more (Some section.Bounds) s line h = record { rows = h.rows; columns = h.columns; sides = h.sides }
word_more (Some section.EndData) s line h = record { rows = h.rows; columns = h.columns; sides = h.sides }

pub line_more : (s : Sections) (line : Line) → KeepsLimits s → line_fault s line ≡ None → KeepsLimits (with_line s line)
line_more s line h f = by line.is_data f
  where
    by : (b : Bool) → cond b (data_fault_in (last_word s.words) s line) (word_fault s (drop 1 line.fields) (section_of (first_field line.fields))) ≡ None
        → KeepsLimits (cond b (with_data_in (last_word s.words) s line) (with_word (section_of (first_field line.fields)) s line))
    by true f = data_more (last_word s.words) s line h f
    by false f = word_more (section_of (first_field line.fields)) s line h

pub none_keeps : KeepsLimits none_yet
none_keeps = record {
  rows = omega arith;
  columns = record { few = omega arith; last_is = λ c e. cc; terms = λ name. refl; places = refl; names = refl };
  sides = refl;
}
