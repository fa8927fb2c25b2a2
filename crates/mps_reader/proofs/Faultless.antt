-- Lines without a fault keep to the limits, with ranges and bounds.
use Rattle.std.specs.Prelude.{◌≡◌, ℕ, ◌+◌, ◌≤◌, ℤ, nat_abs, Bool, true, false, ◌&&◌, not, nat_le, nat_lt, cond, List, ◌∷◌, ◌++◌, Option, Some, None, is_some, Result, Ok, drop, IfSome, []}
use Rattle.std.specs.List.{list_all}
use Rattle.std.specs.Option.{option_or}
use Rattle.std.specs.Str.{bytes_eq}
use Rattle.std.proofs.Common.{refl, sym, ap, ◌∙◌, subst, arith, append-nil, append_assoc}
use Rattle.std.proofs.lemmas.Bool.{and_from}
use Rattle.std.proofs.lemmas.List.Folds.{list_all-append}
use Rattle.std.proofs.lemmas.List.Sums.{sum_by-append}
use Rattle.fraction.specs.Rational.{floor, ceil}
use Rattle.mps_lines.specs.Lines.{Line}
use Rattle.mps_reader.specs.BoundLines.{with_setting, with_limits, summary_of}
use Rattle.mps_reader.proofs.BoundLines.{floor_small, ceil_small}
use Rattle.mps_lines.specs.Infinities.{infinite}
use Rattle.mps_reader.specs.Faults.{when, counted, is_field, is_ranged, count_ranged, differs, bound_value_fault, typed_row_fault, row_fault, side_fault, sides_fault, side_line_fault, side_number_fault, bound_line_fault, limits_fields, section_fault, data_fault_in, word_fault, line_fault, may_follow, stage, stage_of, type_fault}
use Rattle.mps_reader.specs.Lemmas.LinesWithinLimits.{none_keeps, line_more, none_both, none_when, below_of, new_sides}
use Rattle.mps_reader.specs.Meaning.{unless_infinite}
use Rattle.mps_reader.specs.Lemmas.Modest.{modest_number}
use Rattle.mps_reader.specs.Lemmas.Named.{value_under_push, bytes_flip}
use Rattle.mps_reader.specs.Reading.{sections_from, after_line, ends}
use Rattle.mps_reader.proofs.SectionTables.{early, word_of}
use Rattle.mps_reader.specs.Sections.{Sections, none_yet, last_word, with_line, with_data_in, with_word, first_field, rows_of, row_entry, row_typed, sides, sides_of, side_set, with_sides, Bound, Entry, entries_of, columns_of, bound_at, bounds_of, bound_set, with_bound, number, has_value}
use Rattle.mps_reader.specs.Words.{value_under, section_of, row_type_of}
use Rattle.mps_reader.specs.declared.kinds.BoundType.{BoundType}
use Rattle.mps_reader.specs.declared.kinds.BoundType.TheVariants as bound
use Rattle.mps_reader.specs.declared.kinds.Kind.{Kind}
use Rattle.mps_reader.specs.declared.kinds.Kind.TheVariants as kind
use Rattle.mps_reader.specs.declared.kinds.RowType.{RowType}
use Rattle.mps_reader.specs.declared.kinds.Section.{Section}
use Rattle.mps_reader.specs.declared.kinds.Section.TheVariants as section
use Rattle.mps_reader.specs.declared.limits.ColumnBounds.{ColumnBounds}
use Rattle.mps_reader.specs.Lemmas.Limits.{is_modest, KeepsLimits, are_modest_sides}
use Rattle.problem.specs.Limits.{most_rows, largest_bound}

-- ---- ranges
abbrev pub used : List (List ℕ × RowType) → List (List ℕ × List ℕ) → ℕ
used rows ranges = counted rows + count_ranged rows ranges

-- ---- names of rows
-- no name stands twice
abbrev pub HaveDistinctNames : List (List ℕ × RowType) → Type 0
HaveDistinctNames [] = Unit {0}
HaveDistinctNames (r ∷ rows) = (value_under rows r.0 ≡ None) × HaveDistinctNames rows

-- ---- bounds
abbrev pub IsSmall : ℤ → Type 0
IsSmall z = nat_abs z ≤ largest_bound

abbrev pub AreSmall : ColumnBounds → Type 0
AreSmall l = IfSome l.upper (λ z. IsSmall z) × IfSome l.lower (λ z. IsSmall z)

abbrev pub AllSmall : List Bound → Type 0
AllSmall bounds = (name : List ℕ) → AreSmall (summary_of name bounds)

-- ---- all lines
pub record KeepsAll (s : Sections) : Type 0 where
  pub limits : KeepsLimits s
  pub ranges : are_modest_sides (sides_of s.ranges) ≡ true
  pub few : used (rows_of s.rows) (sides_of s.ranges) ≤ most_rows
  pub distinct : HaveDistinctNames (rows_of s.rows)
  pub no_ranges : nat_lt (stage s.words) 4 ≡ true → s.ranges ≡ []
  pub bounds : AllSmall (bounds_of s.bounds)

abbrev one : Bool → ℕ
one b = cond b 1 0

one_more : (rows : List (List ℕ × RowType)) (before : List (List ℕ × List ℕ)) (p : List ℕ × List ℕ) → used rows before ≤ most_rows → (true && is_ranged rows p.0 && nat_le most_rows (used rows before)) ≡ false → used rows (before ++ p ∷ []) ≤ most_rows
one_more rows before p h f = by (is_ranged rows p.0) refl f
  where
    by : (b : Bool) → is_ranged rows p.0 ≡ b → (b && nat_le most_rows (used rows before)) ≡ false → used rows (before ++ p ∷ []) ≤ most_rows
    by true e k = let l = below_of most_rows (used rows before) k in omega (arith, l, sum_by-append (λ p. cond (is_ranged rows p.0) 1 0) before (p ∷ []), ap one e)
    by false e k = omega (arith, h, sum_by-append (λ p. cond (is_ranged rows p.0) 1 0) before (p ∷ []), ap one e)

few_more : (rows : List (List ℕ × RowType)) (before pairs : List (List ℕ × List ℕ)) → used rows before ≤ most_rows → sides_fault true rows before pairs ≡ None → used rows (before ++ pairs) ≤ most_rows
few_more rows before [] h f = subst (λ ps. used rows ps ≤ most_rows) (sym (append-nil before)) h
few_more rows before (p ∷ pairs) h f =
    let d = none_both (side_fault true rows before p) _ f in
    let a = none_both (when (not (is_some (value_under rows p.0))) kind.UnknownRow) _ d.0 in
    let b = none_both (when (is_some (value_under before p.0)) kind.Duplicate) _ a.1 in
    let c = none_both (when (true && is_ranged rows p.0 && nat_le most_rows (used rows before)) kind.TooMany) (side_number_fault p.1) b.1 in
    subst (λ ps. used rows ps ≤ most_rows) (append_assoc before (p ∷ []) pairs)
    (few_more rows (before ++ p ∷ []) pairs (one_more rows before p h (none_when (true && is_ranged rows p.0 && nat_le most_rows (used rows before)) kind.TooMany c.0)) d.1)

record AreRanges (rows : List (List ℕ × RowType)) (pairs : List (List ℕ × List ℕ)) : Type 0 where
  pub modest : are_modest_sides pairs ≡ true
  pub few : used rows pairs ≤ most_rows

ranges_more : (rows : List (List ℕ × RowType)) (earlier : List Line) (s : Option (Option (List ℕ) × List (List ℕ × List ℕ))) → AreRanges rows (sides_of earlier)
    → side_line_fault true rows earlier s ≡ None → AreRanges rows (with_sides s (sides_of earlier))
ranges_more rows earlier None h f = cc
ranges_more rows earlier (Some s) h f =
    let a = none_both (when (differs (side_set earlier) s.0) kind.ManySets) _ f in
    record {
      modest = list_all-append (λ p. is_modest (number p.1)) (sides_of earlier) s.1 ∙ and_from _ _ h.modest (new_sides true rows (sides_of earlier) s.1 a.1);
      few = few_more rows (sides_of earlier) s.1 h.few a.1;
    }

distinct_push : (rows : List (List ℕ × RowType)) (name : List ℕ) (type : RowType) → HaveDistinctNames rows → is_some (value_under rows name) ≡ false → HaveDistinctNames (rows ++ (name, type) ∷ [])
distinct_push [] name type h n = (refl, tt)
distinct_push (r ∷ rows) name type h n = by (λ k. distinct_push rows name type h.1 k) (bytes_eq name r.0) refl n
  where
    by : (is_some (value_under rows name) ≡ false → HaveDistinctNames (rows ++ (name, type) ∷ [])) → (b : Bool) → bytes_eq name r.0 ≡ b → is_some (cond b (Some r.1) (value_under rows name)) ≡ false → HaveDistinctNames ((r ∷ rows) ++ (name, type) ∷ [])
    by rest true e k = cc
    by rest false e k = (
      value_under_push rows name type r.0 ∙ ap (λ (b : Bool). option_or (value_under rows r.0) (cond b (Some type) None)) (bytes_flip r.0 name ∙ e) ∙ ap (λ o. option_or o None) h.0,
      rest k,
    )

distinct_typed : (rows : List (List ℕ × RowType)) (name : List ℕ) (type : Option RowType) → HaveDistinctNames rows → typed_row_fault rows name type ≡ None → HaveDistinctNames (rows ++ row_typed name type)
distinct_typed rows name None h f = cc
distinct_typed rows name (Some type) h f =
    let a = none_both (when (is_some (value_under rows name)) kind.Duplicate) _ f in
    distinct_push rows name type h (none_when (is_some (value_under rows name)) kind.Duplicate a.0)

distinct_more : (rows : List (List ℕ × RowType)) (fields : List (List ℕ)) → HaveDistinctNames rows → row_fault rows fields ≡ None → HaveDistinctNames (rows ++ row_entry fields)
distinct_more rows [] h f = cc
distinct_more rows (a ∷ []) h f = cc
distinct_more rows (type ∷ name ∷ []) h f = distinct_typed rows name (row_type_of type) h f
distinct_more rows (a ∷ b ∷ c ∷ fields) h f = cc

setting_small : (type : BoundType) (upper lower : Option ℤ) (negative : Bool) (l : ColumnBounds) → (has_value type ≡ true → IfSome upper (λ z. IsSmall z) × IfSome lower (λ z. IsSmall z)) → AreSmall l → AreSmall (with_setting type upper lower negative l)
setting_small bound.Up upper lower negative l v h = ((v refl).0, h.1)
setting_small bound.Lo upper lower negative l v h = (h.0, (v refl).1)
setting_small bound.Fx upper lower negative l v h = ((v refl).0, (v refl).1)
setting_small bound.Li upper lower negative l v h = (h.0, (v refl).1)
setting_small bound.Ui upper lower negative l v h = ((v refl).0, h.1)
setting_small bound.Fr upper lower negative l v h = (tt, tt)
setting_small bound.Mi upper lower negative l v h = (h.0, tt)
setting_small bound.Pl upper lower negative l v h = (tt, h.1)
setting_small bound.Bv upper lower negative l v h = (omega arith, omega arith)

value_small : (type : BoundType) (value : List ℕ) (o : Option Bool) → bound_value_fault type value o ≡ None
    → IfSome (unless_infinite o (floor (number value))) (λ z. IsSmall z) × IfSome (unless_infinite o (ceil (number value))) (λ z. IsSmall z)
value_small type value (Some b) f = (tt, tt)
value_small type value None f = let m = modest_number value (ap is_some f) in (floor_small (number value) m, ceil_small (number value) m)

limits_small : (type : BoundType) (value : List ℕ) (l : ColumnBounds) → type_fault type value ≡ None → AreSmall l → AreSmall (with_limits type value l)
limits_small type value l f h = setting_small type _ _ _ l (λ v. value_small type value (infinite value) (sym (ap (λ (b : Bool). cond b (bound_value_fault type value (infinite value)) None) v) ∙ f)) h

bound_more : (earlier : List Bound) (b : Bound) → AllSmall earlier → type_fault b.type b.value ≡ None → AllSmall (b ∷ earlier)
bound_more earlier b h f name = by (bytes_eq b.column name)
  where
    by : (own : Bool) → AreSmall (cond own (with_limits b.type b.value (summary_of name earlier)) (summary_of name earlier))
    by true = limits_small b.type b.value (summary_of name earlier) f (h name)
    by false = h name

some_bound : (entries : List Entry) (earlier : List Bound) (o : Option Bound) → AllSmall earlier → bound_line_fault entries earlier o ≡ None → AllSmall (with_bound o earlier)
some_bound entries earlier None h f = cc
some_bound entries earlier (Some b) h f =
    let a = none_both (when (differs (bound_set earlier) b.group) kind.ManySets) _ f in
    let c = none_both (when (not (is_some (value_under (columns_of entries) b.column))) kind.UnknownColumn) _ a.1 in
    bound_more earlier b h c.1

data_more : (word : Option Section) (s : Sections) (line : Line) → KeepsAll s → KeepsLimits (with_data_in word s line) → last_word s.words ≡ word → data_fault_in word s line ≡ None → KeepsAll (with_data_in word s line)
data_more word s line h k w f = by word k w (none_both (when (limits_fields word && not (list_all is_field line.fields)) kind.BadFields) _ f).1
  where
    late : {A : Type 0} → last_word s.words ≡ Some section.Ranges → nat_lt (stage s.words) 4 ≡ true → A
    late w l = let z = sym l ∙ ap (λ o. nat_lt (stage_of o) 4) w in cc

    by : (word : Option Section) → KeepsLimits (with_data_in word s line) → last_word s.words ≡ word → section_fault word s line ≡ None → KeepsAll (with_data_in word s line)
    by None k w f = h
    by (Some section.Name) k w f = h
    by (Some section.EndData) k w f = h
    by (Some section.ObjSense) k w f = record { limits = k; ranges = h.ranges; few = h.few; distinct = h.distinct; no_ranges = h.no_ranges; bounds = h.bounds }
    by (Some section.Rows) k w f =
        let n : s.ranges ≡ [] = h.no_ranges (ap (λ o. nat_lt (stage_of o) 4) w) in
        let e : count_ranged (rows_of (line ∷ s.rows)) (sides_of s.ranges) ≡ 0 = ap (λ ls. count_ranged (rows_of (line ∷ s.rows)) (sides_of ls)) n in
        record { limits = k; ranges = h.ranges; few = omega (arith, e, k.rows); distinct = distinct_more (rows_of s.rows) line.fields h.distinct f; no_ranges = h.no_ranges; bounds = h.bounds }
    by (Some section.Columns) k w f = record { limits = k; ranges = h.ranges; few = h.few; distinct = h.distinct; no_ranges = h.no_ranges; bounds = h.bounds }
    by (Some section.Rhs) k w f = record { limits = k; ranges = h.ranges; few = h.few; distinct = h.distinct; no_ranges = h.no_ranges; bounds = h.bounds }
    by (Some section.Ranges) k w f =
        let r = ranges_more (rows_of s.rows) s.ranges (sides line.fields) (record { modest = h.ranges; few = h.few }) f in
        record { limits = k; ranges = r.modest; few = r.few; distinct = h.distinct; no_ranges = λ l. late w l; bounds = h.bounds }
    by (Some section.Bounds) k w f =
        record { limits = k; ranges = h.ranges; few = h.few; distinct = h.distinct; no_ranges = h.no_ranges; bounds = some_bound (entries_of s.columns) (bounds_of s.bounds) (bound_at line.fields) h.bounds f }

word_more : (word : Section) (s : Sections) (line : Line) → KeepsAll s → KeepsLimits (with_word (Some word) s line) → may_follow s.words word ≡ true → KeepsAll (with_word (Some word) s line)
word_more section.Name s line h k m = record { limits = k; ranges = h.ranges; few = h.few; distinct = h.distinct; no_ranges = λ l. h.no_ranges (early s.words section.Name m l); bounds = h.bounds }
word_more section.ObjSense s line h k m = record { limits = k; ranges = h.ranges; few = h.few; distinct = h.distinct; no_ranges = λ l. h.no_ranges (early s.words section.ObjSense m l); bounds = h.bounds }
word_more section.Rows s line h k m = record { limits = k; ranges = h.ranges; few = h.few; distinct = h.distinct; no_ranges = λ l. h.no_ranges (early s.words section.Rows m l); bounds = h.bounds }
word_more section.Columns s line h k m = record { limits = k; ranges = h.ranges; few = h.few; distinct = h.distinct; no_ranges = λ l. h.no_ranges (early s.words section.Columns m l); bounds = h.bounds }
word_more section.Rhs s line h k m = record { limits = k; ranges = h.ranges; few = h.few; distinct = h.distinct; no_ranges = λ l. h.no_ranges (early s.words section.Rhs m l); bounds = h.bounds }
word_more section.Ranges s line h k m = record { limits = k; ranges = h.ranges; few = h.few; distinct = h.distinct; no_ranges = λ l. h.no_ranges (early s.words section.Ranges m l); bounds = h.bounds }
word_more section.Bounds s line h k m = record { limits = k; ranges = h.ranges; few = h.few; distinct = h.distinct; no_ranges = λ l. h.no_ranges (early s.words section.Bounds m l); bounds = h.bounds }
word_more section.EndData s line h k m = record { limits = k; ranges = h.ranges; few = h.few; distinct = h.distinct; no_ranges = λ l. h.no_ranges (early s.words section.EndData m l); bounds = h.bounds }

some_word : (word : Option Section) (s : Sections) (line : Line) (rest : List (List ℕ)) → KeepsAll s → KeepsLimits (with_word word s line) → word_fault s rest word ≡ None → KeepsAll (with_word word s line)
some_word None s line rest h k f = cc
some_word (Some word) s line rest h k f = word_more word s line h k (word_of s rest word f)

all_more : (s : Sections) (line : Line) → KeepsAll s → line_fault s line ≡ None → KeepsAll (with_line s line)
all_more s line h f = by line.is_data f (line_more s line h.limits f)
  where
    by : (b : Bool) → cond b (data_fault_in (last_word s.words) s line) (word_fault s (drop 1 line.fields) (section_of (first_field line.fields))) ≡ None
        → KeepsLimits (cond b (with_data_in (last_word s.words) s line) (with_word (section_of (first_field line.fields)) s line))
        → KeepsAll (cond b (with_data_in (last_word s.words) s line) (with_word (section_of (first_field line.fields)) s line))
    by true f k = data_more (last_word s.words) s line h k refl f
    by false f k = some_word (section_of (first_field line.fields)) s line (drop 1 line.fields) h k f

pub none_all : KeepsAll none_yet
none_all = record { limits = none_keeps; ranges = refl; few = omega arith; distinct = tt; no_ranges = λ l. refl; bounds = λ name. (tt, omega arith) }

-- what a line without a fault leaves
stepped : (s : Sections) (line : Line) (r : Result Sections (ℕ × Kind)) (t : Sections) (f : Option Kind) (b : Bool) → KeepsAll s → line_fault s line ≡ f → ends line ≡ b → (KeepsAll (with_line s line) → r ≡ Ok t → KeepsAll t)
    → after_line f line r s ≡ Ok t → KeepsAll t
stepped s line r t (Some k) b h g p rest e = cc
stepped s line r t None true h g p rest e = subst (λ (t : Sections). KeepsAll t) (same s t _ _ refl refl (sym (ap (λ (b : Bool). cond b (Ok s) r) p) ∙ e)) h
  where
    same : (a b : Sections) (x y : Result Sections (ℕ × Kind)) → x ≡ Ok a → y ≡ Ok b → x ≡ y → a ≡ b
    same a b x y p q r = cc
stepped s line r t None false h g p rest e = rest (all_more s line h g) (sym (ap (λ (b : Bool). cond b (Ok s) r) p) ∙ e)

pub all_keep : (last : ℕ) (s : Sections) (lines : List Line) (t : Sections) → KeepsAll s → sections_from last s lines ≡ Ok t → KeepsAll t
all_keep last s [] t h e = cc
all_keep last s (line ∷ lines) t h e = stepped s line (sections_from last (with_line s line) lines) t (line_fault s line) (ends line) h refl refl (λ k. all_keep last (with_line s line) lines t k) e
