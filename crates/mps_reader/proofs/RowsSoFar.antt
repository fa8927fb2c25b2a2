-- Lemmas: what the columns so far say of each row.
use Rattle.std.specs.Prelude.{◌≡◌, ℕ, ◌+◌, ◌-◌, ◌<◌, ◌≤◌, Bool, true, false, ◌==◌, ◌&&◌, not, ◌||◌, cond, if◌then◌else◌, List, ◌∷◌, ◌++◌, map, Option, Some, None, is_some, length, suc, []}
use Rattle.std.specs.Option.{option_map, option_or}
use Rattle.std.specs.List.{position, position_or_len, AllByRecursion, IsDistinct}
use Rattle.std.specs.Str.{bytes_eq}
use Rattle.std.proofs.Common.{refl, sym, ap, ◌∙◌, subst, arith, append-nil, set, get_or}
use Rattle.std.proofs.lemmas.Bool.{true≢false}
use Rattle.std.proofs.lemmas.List.{map-append}
use Rattle.std.proofs.lemmas.List.Sums.{sum_by-cons}
use Rattle.std.proofs.lemmas.Map.Keys.{IsDistinct-head, IsDistinct-tail}
use Rattle.std.proofs.lemmas.Slice.Eq.{bytes_eq-Decides}
use Rattle.fraction.specs.Rational.{ℚ}
use denote.Ref.{Bor}
use Rattle.mps_reader.proofs.BoundTables.{same_name}
use Rattle.mps_reader.specs.Faults.{◌<|>◌, counted, is_counted, entry_fault, number_fault, names_fault}
use Rattle.mps_reader.specs.Meaning.{is_zero, objective_name, place, terms_of}
use Rattle.mps_reader.specs.Lemmas.Named.{bytes_flip, length_push, value_under_push, same_text}
use Rattle.mps_reader.specs.RowState.{RowState, is_place, new_row, with_number, with_term}
use Rattle.mps_reader.specs.Sections.{Entry, columns_of, is_same, last_of, number, run_of, with_column}
use Rattle.mps_reader.specs.Tables.{table}
use Rattle.mps_reader.specs.Words.{value_under}
use Rattle.mps_reader.specs.declared.kinds.Column.{Column}
use Rattle.mps_reader.specs.declared.kinds.Kind.{Kind}
use Rattle.mps_reader.specs.declared.kinds.RowType.{RowType}
use Rattle.mps_reader.specs.declared.kinds.RowType.TheVariants as row
use Rattle.mps_reader.specs.RowsSoFar.{last_place, named_last, keeps_by, row_so_far, IsRowAt, new_rows}

module _ (rows : List (List ℕ × RowType)) (entries : List Entry) (e : Entry) where
  pub names_fine : names_fault rows entries e ≡ None → entry_fault rows entries e ≡ number_fault e.value
  names_fine h = ap (λ o. o <|> number_fault e.value) h

  pub names_stop : (k : Kind) → names_fault rows entries e ≡ Some k → entry_fault rows entries e ≡ Some k
  names_stop k h = ap (λ o. o <|> number_fault e.value) h

-- ---- the rows of the last column
some_columns : (e : Entry) (earlier : List Entry) → 0 < length (columns_of (e ∷ earlier))
some_columns e [] = omega arith
some_columns e (d ∷ earlier) = by (some_columns d earlier) (is_same (last_of (d ∷ earlier)) e.column)
  where
    by : 0 < length (columns_of (d ∷ earlier)) → (b : Bool) → 0 < length (with_column b (columns_of (d ∷ earlier)) e)
    by rest true = rest
    by rest false = omega (arith, length_push (columns_of (d ∷ earlier)) (e.column, record { line = e.line; is_marked = e.is_marked }))

columns_grow : (b : Bool) (columns : List (List ℕ × Column)) (e : Entry) → length columns ≤ length (with_column b columns e)
columns_grow true columns e = omega arith
columns_grow false columns e = omega (arith, length_push columns (e.column, record { line = e.line; is_marked = e.is_marked }))

place_below : (name : List ℕ) (entries : List Entry) (p : ℕ) → named_last name entries ≡ Some p → p < length (columns_of entries)
place_below name [] p h = cc
place_below name (e ∷ earlier) p h = by (λ k. place_below name earlier p k) (bytes_eq e.row name) h
  where
    same : (a b : ℕ) → Some a ≡ Some b → a ≡ b
    same a b h = cc

    by : (named_last name earlier ≡ Some p → p < length (columns_of earlier)) → (b : Bool) → cond b (Some (last_place (e ∷ earlier))) (named_last name earlier) ≡ Some p → p < length (columns_of (e ∷ earlier))
    by rest true k = omega (arith, same (last_place (e ∷ earlier)) p k, some_columns e earlier)
    by rest false k = omega (arith, rest k, columns_grow (is_same (last_of earlier) e.column) (columns_of earlier) e)

same_place : (p : ℕ) → (p == p) ≡ true
same_place p = grind arith

-- a row that an earlier column named last isn't one of the last column's
not_below : (o : Option ℕ) (n : ℕ) → ((p : ℕ) → o ≡ Some p → p < n) → is_place o n ≡ false
not_below None n h = refl
not_below (Some p) n h = let l = h p refl in grind arith

pub or_none : {A : Type 0} (o : Option A) → option_or o None ≡ o
or_none None = refl
or_none (Some a) = refl

or_some : {A : Type 0} (o : Option A) (a : A) → is_some (option_or o (Some a)) ≡ true
or_some None a = refl
or_some (Some b) a = refl

module _ (name : List ℕ) (e : Entry) (earlier : List Entry) (same : Bool) (k : is_same (last_of earlier) e.column ≡ same)
    (rest : same ≡ true → is_some (value_under (run_of earlier) name) ≡ is_place (named_last name earlier) (last_place earlier)) where
  abbrev run_before : List (List ℕ × ℚ)
  run_before = if same then run_of earlier else []

  abbrev place_now : ℕ
  place_now = length (with_column same (columns_of earlier) e) - 1

  named_before : is_some (value_under run_before name) ≡ is_place (named_last name earlier) place_now
  named_before = by same rest
    where
      by : (same : Bool) → (same ≡ true → is_some (value_under (run_of earlier) name) ≡ is_place (named_last name earlier) (last_place earlier))
          → is_some (value_under (cond same (run_of earlier) []) name) ≡ is_place (named_last name earlier) (length (with_column same (columns_of earlier) e) - 1)
      by true rest = rest refl
      by false rest =
          let n : length (with_column false (columns_of earlier) e) - 1 ≡ length (columns_of earlier) = omega (arith, length_push (columns_of earlier) (e.column, record { line = e.line; is_marked = e.is_marked })) in
          sym (ap (is_place (named_last name earlier)) n ∙ not_below (named_last name earlier) (length (columns_of earlier)) (place_below name earlier))

  named_now : (b c : Bool) → c ≡ b → is_some (option_or (value_under run_before name) (cond c (Some (number e.value)) None)) ≡ is_place (cond b (Some place_now) (named_last name earlier)) place_now
  named_now true true f = or_some (value_under run_before name) (number e.value) ∙ sym (same_place place_now)
  named_now true false f = cc
  named_now false true f = cc
  named_now false false f = ap is_some (or_none (value_under run_before name)) ∙ named_before

  run_by : is_some (value_under (run_of (e ∷ earlier)) name) ≡ is_place (named_last name (e ∷ earlier)) (last_place (e ∷ earlier))
  run_by = (λ i. is_some (value_under (cond (k i) (run_of earlier) [] ++ (e.row, number e.value) ∷ []) name))
      ∙ ap is_some (value_under_push run_before e.row (number e.value) name) ∙ named_now (bytes_eq e.row name) (bytes_eq name e.row) (bytes_flip name e.row)
      ∙ (λ i. is_place (cond (bytes_eq e.row name) (Some (length (with_column (sym k i) (columns_of earlier) e) - 1)) (named_last name earlier)) (length (with_column (sym k i) (columns_of earlier) e) - 1))

-- a row stands in the run of the last column just where that column named it last
pub run_named : (name : List ℕ) (e : Entry) (earlier : List Entry) → is_some (value_under (run_of (e ∷ earlier)) name) ≡ is_place (named_last name (e ∷ earlier)) (last_place (e ∷ earlier))
run_named name e [] = run_by name e [] (is_same None e.column) refl (λ h. cc)
run_named name e (d ∷ earlier) = run_by name e (d ∷ earlier) (is_same (last_of (d ∷ earlier)) e.column) refl (λ h. run_named name d earlier)

-- ---- one more entry
position_by : {X : Type 0} (p : X → Bool) (xs : List X) (i : ℕ) (b : Bool) → Some i ≡ cond b (Some (position_or_len p xs)) None → i ≡ position_or_len p xs
position_by p xs i true h = cc
position_by p xs i false h = cc

module _ {X : Type 0} (name : List ℕ) (o : Option RowType) (f g : List ℕ × RowType → X) (w : X → X)
    (own : (r : List ℕ × RowType) → bytes_eq name r.0 ≡ true → o ≡ Some r.1 → w (f r) ≡ g r) (other : (r : List ℕ × RowType) → bytes_eq name r.0 ≡ false → f r ≡ g r) where
  -- where the name stands first
  abbrev spot : List (Bor (List ℕ) × RowType) → ℕ
  spot es = position_or_len (λ k. bytes_eq name k.now) (map (λ e. e.0) es)

  others_kept : (es : List (Bor (List ℕ) × RowType)) → AllByRecursion (λ k. bytes_eq name k.now ≡ false) (map (λ e. e.0) es) → map f (table es) ≡ map g (table es)
  others_kept [] h = refl
  others_kept (e ∷ es) h = λ i. other (e.0.now, e.1) h.0 i ∷ others_kept es h.1 i

  others_apart : (a : Bor (List ℕ)) (ks : List (Bor (List ℕ))) → bytes_eq name a.now ≡ true → AllByRecursion (λ k. bytes_eq a.now k.now ≡ false) ks → AllByRecursion (λ k. bytes_eq name k.now ≡ false) ks
  others_apart a ks h u = subst (λ (n : List ℕ). AllByRecursion (λ k. bytes_eq n k.now ≡ false) ks) (sym (same_text name a.now h)) u

  abbrev IsSet : List (Bor (List ℕ) × RowType) → ℕ → X → Type 0
  IsSet es n d = set (map f (table es)) n (w (get_or (map f (table es)) n d)) ≡ map g (table es)

  set_at : (es : List (Bor (List ℕ) × RowType)) (d : X) → spot es < length es → value_under (table es) name ≡ o → IsDistinct same_name (map (λ e. e.0) es) → IsSet es (spot es) d
  set_at [] d l k u = absurd (omega (arith, l))
  set_at (e ∷ es) d l k u = by (λ l k. set_at es d l k (IsDistinct-tail same_name e.0 (map (λ e. e.0) es) u)) (bytes_eq name e.0.now) refl l k
    where
      by : (spot es < length es → value_under (table es) name ≡ o → IsSet es (spot es) d) → (b : Bool) → bytes_eq name e.0.now ≡ b → cond (not b) (1 + spot es) 0 < suc (length es)
          → cond b (Some e.1) (value_under (table es) name) ≡ o → IsSet (e ∷ es) (cond (not b) (1 + spot es) 0) d
      by rest true h l k = λ i. own (e.0.now, e.1) h (sym k) i ∷ others_kept es (others_apart e.0 (map (λ e. e.0) es) h (IsDistinct-head same_name e.0 (map (λ e. e.0) es) u)) i
      by rest false h l k =
          let next : 1 + spot es ≡ suc (spot es) = omega arith in
          (λ i. set (map f (table (e ∷ es))) (next i) (w (get_or (map f (table (e ∷ es))) (next i) d)))
          ∙ (λ i. other (e.0.now, e.1) h i ∷ rest (omega (arith, l)) k i)

  pub row_set : (es : List (Bor (List ℕ) × RowType)) (i : ℕ) (d : X) → IsRowAt es name i → value_under (table es) name ≡ o → IsSet es i d
  row_set es i d h k =
      let p = position_by (λ k. bytes_eq name k.now) (map (λ e. e.0) es) i _ h.at in
      (λ j. set (map f (table es)) (p j) (w (get_or (map f (table es)) (p j) d)))
      ∙ set_at es d (subst (λ n. n < length es) p h.within) k h.distinct

-- ---- the row of a name
module _ {X Y : Type 0} (name : List ℕ) (f : List ℕ × RowType → X) (part : X → Y) (o : Y) (own : (r : List ℕ × RowType) → bytes_eq name r.0 ≡ true → part (f r) ≡ o) where
  abbrev Gives : List (Bor (List ℕ) × RowType) → ℕ → X → Type 0
  Gives es n d = part (get_or (map f (table es)) n d) ≡ o

  gives_at : (es : List (Bor (List ℕ) × RowType)) (d : X) → position_or_len (λ k. bytes_eq name k.now) (map (λ e. e.0) es) < length es → Gives es (position_or_len (λ k. bytes_eq name k.now) (map (λ e. e.0) es)) d
  gives_at [] d l = absurd (omega (arith, l))
  gives_at (e ∷ es) d l = by (gives_at es d) (bytes_eq name e.0.now) refl l
    where
      n : ℕ
      n = position_or_len (λ k. bytes_eq name k.now) (map (λ e. e.0) es)

      by : (n < length es → Gives es n d) → (b : Bool) → bytes_eq name e.0.now ≡ b → cond (not b) (1 + n) 0 < suc (length es) → Gives (e ∷ es) (cond (not b) (1 + n) 0) d
      by rest true h l = own (e.0.now, e.1) h
      by rest false h l =
          let next : 1 + n ≡ suc n = omega arith in
          (λ i. part (get_or (map f (table (e ∷ es))) (next i) d)) ∙ rest (omega (arith, l))

  pub row_gives : (es : List (Bor (List ℕ) × RowType)) (i : ℕ) (d : X) → Some i ≡ position (λ k. bytes_eq name k.now) (map (λ e. e.0) es) → i < length es → Gives es i d
  row_gives es i d h l =
      let p = position_by (λ k. bytes_eq name k.now) (map (λ e. e.0) es) i _ h in
      (λ j. part (get_or (map f (table es)) (p j) d)) ∙ gives_at es d (subst (λ n. n < length es) p l)

-- the place of the column that named a row last, at the row's index
pub named_at : (objective : Option (List ℕ)) (entries : List Entry) (name : List ℕ) (es : List (Bor (List ℕ) × RowType)) (i : ℕ) (d : RowState)
    → Some i ≡ position (λ k. bytes_eq name k.now) (map (λ e. e.0) es) → i < length es → (get_or (map (row_so_far objective entries) (table es)) i d).named_by ≡ named_last name entries
named_at objective entries name =
    row_gives name (row_so_far objective entries) (λ (r : RowState). r.named_by) (named_last name entries) (λ r h. ap (λ n. named_last n entries) (sym (same_text name r.0 h)))

map_kept : {A B : Type 0} (f : A → B) (b : Bool) (a : A) → option_map f (if b then Some a else None) ≡ (if b then Some (f a) else None)
map_kept f true a = refl
map_kept f false a = refl

module _ (objective : Option (List ℕ)) (e : Entry) (entries : List Entry) (p : place (columns_of (e ∷ entries)) e.column ≡ last_place (e ∷ entries)) where
  abbrev more : RowState → RowState
  more r = with_number (last_place (e ∷ entries)) (number e.value) r

  own_terms : (name : List ℕ) → bytes_eq e.row name ≡ true → with_term (last_place (e ∷ entries)) (number e.value) (terms_of name entries) ≡ terms_of name (e ∷ entries)
  own_terms name h = by (is_zero (number e.value))
      ∙ (λ i. terms_of name entries ++ (if sym h i && not (is_zero (number e.value)) then (place (columns_of (e ∷ entries)) e.column, number e.value) ∷ [] else []))
    where
      by : (z : Bool) → (if z then terms_of name entries else terms_of name entries ++ (last_place (e ∷ entries), number e.value) ∷ [])
          ≡ terms_of name entries ++ (if not z then (place (columns_of (e ∷ entries)) e.column, number e.value) ∷ [] else [])
      by true = sym (append-nil (terms_of name entries))
      by false = λ i. terms_of name entries ++ (sym p i, number e.value) ∷ []

  other_terms : (name : List ℕ) → bytes_eq e.row name ≡ false → terms_of name entries ≡ terms_of name (e ∷ entries)
  other_terms name h = sym (append-nil (terms_of name entries))
      ∙ (λ i. terms_of name entries ++ (if sym h i && not (is_zero (number e.value)) then (place (columns_of (e ∷ entries)) e.column, number e.value) ∷ [] else []))

  own_row : (r : List ℕ × RowType) → bytes_eq e.row r.0 ≡ true → more (row_so_far objective entries r) ≡ row_so_far objective (e ∷ entries) r
  own_row r h =
      let t = map_kept (with_term (last_place (e ∷ entries)) (number e.value)) (keeps_by objective r) (terms_of r.0 entries)
      ∙ ap (λ ts. if keeps_by objective r then Some ts else None) (own_terms r.0 h) in
      λ i. record { terms = t i; named_by = if sym h i then Some (last_place (e ∷ entries)) else named_last r.0 entries }

  other_row : (r : List ℕ × RowType) → bytes_eq e.row r.0 ≡ false → row_so_far objective entries r ≡ row_so_far objective (e ∷ entries) r
  other_row r h = λ i. record {
    terms = if keeps_by objective r then Some (other_terms r.0 h i) else None;
    named_by = if sym h i then Some (last_place (e ∷ entries)) else named_last r.0 entries;
  }

  pub entry_set : (es : List (Bor (List ℕ) × RowType)) (i : ℕ) (d : RowState) → IsRowAt es e.row i
      → set (map (row_so_far objective entries) (table es)) i (more (get_or (map (row_so_far objective entries) (table es)) i d)) ≡ map (row_so_far objective (e ∷ entries)) (table es)
  entry_set es i d h = row_set e.row (value_under (table es) e.row) (row_so_far objective entries) (row_so_far objective (e ∷ entries)) more (λ r b k. own_row r b) other_row es i d h refl

objective_push : (rows : List (List ℕ × RowType)) (r : List ℕ × RowType) → objective_name (rows ++ r ∷ []) ≡ option_or (objective_name rows) (objective_name (r ∷ []))
objective_push [] r = refl
objective_push ((name, row.N) ∷ rows) r = refl
objective_push ((name, row.L) ∷ rows) r = objective_push rows r
objective_push ((name, row.G) ∷ rows) r = objective_push rows r
objective_push ((name, row.E) ∷ rows) r = objective_push rows r

counted_cons : (r : List ℕ × RowType) (rows : List (List ℕ × RowType)) → counted (r ∷ rows) ≡ (if is_counted r.1 then 1 else 0) + counted rows
counted_cons r rows = sum_by-cons (λ (r : List ℕ × RowType). if is_counted r.1 then 1 else 0) r rows

counted_few : (rows : List (List ℕ × RowType)) → counted rows ≤ length rows
counted_few [] = omega arith
counted_few (r ∷ rows) = by (is_counted r.1) (counted_cons r rows) (counted_few rows)
  where
    by : (b : Bool) → counted (r ∷ rows) ≡ (if b then 1 else 0) + counted rows → counted rows ≤ length rows → counted (r ∷ rows) ≤ suc (length rows)
    by true e rest = omega (arith, e, rest)
    by false e rest = omega (arith, e, rest)

next : (n a b : ℕ) → n ≡ 1 + a → (n == suc b) ≡ (a == b)
next n a b e = grind (arith, e)

-- all rows count just where none is of type N
all_counted : (rows : List (List ℕ × RowType)) → (counted rows == length rows) ≡ not (is_some (objective_name rows))
all_counted [] = refl
all_counted ((name, row.N) ∷ rows) = less (counted ((name, row.N) ∷ rows)) (length rows) (omega (arith, counted_cons (name, row.N) rows, counted_few rows))
  where
    less : (a b : ℕ) → a ≤ b → (a == suc b) ≡ false
    less a b l = grind (arith, l)
all_counted ((name, row.L) ∷ rows) = next (counted ((name, row.L) ∷ rows)) (counted rows) (length rows) (counted_cons (name, row.L) rows) ∙ all_counted rows
all_counted ((name, row.G) ∷ rows) = next (counted ((name, row.G) ∷ rows)) (counted rows) (length rows) (counted_cons (name, row.G) rows) ∙ all_counted rows
all_counted ((name, row.E) ∷ rows) = next (counted ((name, row.E) ∷ rows)) (counted rows) (length rows) (counted_cons (name, row.E) rows) ∙ all_counted rows

-- rows that all count are kept whatever the objective is
kept_all : (o p : Option (List ℕ)) (rows : List (List ℕ × RowType)) → objective_name rows ≡ None → map (row_so_far o []) rows ≡ map (row_so_far p []) rows
kept_all o p [] h = refl
kept_all o p ((name, row.N) ∷ rows) h = cc
kept_all o p ((name, row.L) ∷ rows) h = ap (λ rs. new_row true ∷ rs) (kept_all o p rows h)
kept_all o p ((name, row.G) ∷ rows) h = ap (λ rs. new_row true ∷ rs) (kept_all o p rows h)
kept_all o p ((name, row.E) ∷ rows) h = ap (λ rs. new_row true ∷ rs) (kept_all o p rows h)

objective_named : (rows : List (List ℕ × RowType)) (name : List ℕ) → objective_name rows ≡ Some name → is_some (value_under rows name) ≡ true
objective_named [] name h = cc
objective_named (r ∷ rows) name h = by (objective_named rows name) (bytes_eq name r.0) refl r.1 h
  where
    same : (a b : List ℕ) → Some a ≡ Some b → a ≡ b
    same a b h = cc

    by : (objective_name rows ≡ Some name → is_some (value_under rows name) ≡ true) → (b : Bool) → bytes_eq name r.0 ≡ b → (type : RowType) → objective_name ((r.0, type) ∷ rows) ≡ Some name
        → is_some (cond b (Some r.1) (value_under rows name)) ≡ true
    by rest true e type h = refl
    by rest false e row.N h = absurd (true≢false (sym ((bytes_eq-Decides name r.0).1 (sym (same r.0 name h))) ∙ e))
    by rest false e row.L h = rest h
    by rest false e row.G h = rest h
    by rest false e row.E h = rest h

-- whether the terms of a new row count: the first N row stands behind rows that all count
new_keeps : (rows : List (List ℕ × RowType)) (name : List ℕ) (type : RowType) → is_some (value_under rows name) ≡ false
    → (is_counted type || (counted rows == length rows)) ≡ keeps_by (objective_name (rows ++ (name, type) ∷ [])) (name, type)
new_keeps rows name row.L h = refl
new_keeps rows name row.G h = refl
new_keeps rows name row.E h = refl
new_keeps rows name row.N h = all_counted rows ∙ by (objective_name rows) refl ∙ ap (λ o. is_same o name) (sym (objective_push rows (name, row.N)))
  where
    by : (o : Option (List ℕ)) → objective_name rows ≡ o → not (is_some o) ≡ is_same (option_or o (Some name)) name
    by None e = sym ((bytes_eq-Decides name name).1 refl)
    by (Some first) e = other (bytes_eq name first) refl
      where
        other : (b : Bool) → bytes_eq name first ≡ b → false ≡ b
        other false k = refl
        other true k = absurd (true≢false (sym (objective_named rows name (e ∙ ap Some (sym (same_text name first k)))) ∙ h))

pub rows_more : (rows : List (List ℕ × RowType)) (name : List ℕ) (type : RowType) → is_some (value_under rows name) ≡ false
    → new_rows rows ++ new_row (is_counted type || (counted rows == length rows)) ∷ [] ≡ new_rows (rows ++ (name, type) ∷ [])
rows_more rows name type h =
    (λ i. same (objective_name rows) refl i ++ new_row (new_keeps rows name type h i) ∷ [])
    ∙ sym (map-append (row_so_far (objective_name (rows ++ (name, type) ∷ [])) []) rows ((name, type) ∷ []))
  where
    same : (o : Option (List ℕ)) → objective_name rows ≡ o → map (row_so_far (objective_name rows) []) rows ≡ map (row_so_far (objective_name (rows ++ (name, type) ∷ [])) []) rows
    same None e = kept_all (objective_name rows) (objective_name (rows ++ (name, type) ∷ [])) rows e
    same (Some first) e = ap (λ o. map (row_so_far o []) rows) (e ∙ sym (objective_push rows (name, type) ∙ ap (λ o. option_or o (objective_name ((name, type) ∷ []))) e))
