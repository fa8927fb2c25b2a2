-- Lemmas: the reader's tables are those of the sections so far.
use Rattle.std.specs.Prelude.{◌≡◌, ℕ, Bool, true, false, ◌==◌, ◌||◌, ◌&&◌, not, nat_lt, cond, List, ◌∷◌, map, Option, Some, None, drop, length, []}
use Rattle.std.specs.List.{list_all}
use Rattle.std.proofs.Common.{refl, sym, ap, ◌∙◌, arith, subst}
use Rattle.mps_lines.specs.Lines.{Line}
use Rattle.mps_reader.specs.BoundTables.{HasBounds}
use Rattle.mps_reader.specs.Faults.{◌<|>◌, when, is_field, limits_fields, line_fault, data_fault_in, section_fault, word_fault, rest_fault, stage, stage_of, may_follow}
use Rattle.mps_reader.specs.SectionOrder.{HasOrder, order_after}
use Rattle.mps_reader.proofs.SectionOrder.{order_held}
use Rattle.mps_reader.specs.Sections.{Sections, with_line, with_data_in, with_word, first_field, rows_of, entries_of, bounds_of, bound_at, with_bound, sides_of, last_word}
use Rattle.mps_reader.specs.Meaning.{objective_name}
use Rattle.mps_reader.specs.Reading.{ends, is_end}
use Rattle.mps_reader.specs.RowsSoFar.{new_rows, row_so_far}
use Rattle.mps_reader.specs.SideLines.{HasSideLines, HasSides}
use Rattle.mps_reader.proofs.SideLines.{sides_none}
use Rattle.mps_reader.specs.Tables.{table}
use Rattle.mps_reader.specs.Words.{section_of}
use Rattle.mps_reader.specs.declared.kinds.Kind.TheVariants as kind
use Rattle.mps_reader.specs.declared.kinds.Section.{Section}
use Rattle.mps_reader.specs.declared.kinds.Section.TheVariants as section
use Rattle.mps_reader.specs.declared.kinds.RowType.{RowType}
use Rattle.mps_reader.specs.declared.sides.Sides.{Sides}
use Rattle.mps_reader.specs.declared.tables.Tables.{Tables}
use Rattle.mps_reader.specs.SectionTables.{HoldsSections, with_section, rest_of}

-- ---- a data line
module _ (s : Sections) (line : Line) (d : line.is_data ≡ true) (o : Option Section) (l : o ≡ last_word s.words) where
  -- a data line's fault by the last section word
  pub fault_at : line_fault s line ≡ data_fault_in o s line
  fault_at = ap (λ (b : Bool). cond b (data_fault_in (last_word s.words) s line) (word_fault s (drop 1 line.fields) (section_of (first_field line.fields)))) d
      ∙ ap (λ o. data_fault_in o s line) (sym l)

  -- and where its fields are within their limits
  pub fault_by_section : (limits_fields o && not (list_all is_field line.fields)) ≡ false → line_fault s line ≡ section_fault o s line
  fault_by_section b = fault_at ∙ ap (λ b. when b kind.BadFields <|> section_fault o s line) b

  pub bad_field : (limits_fields o && not (list_all is_field line.fields)) ≡ true → line_fault s line ≡ Some kind.BadFields
  bad_field b = fault_at ∙ ap (λ b. when b kind.BadFields <|> section_fault o s line) b

  pub line_at : with_line s line ≡ with_data_in o s line
  line_at = ap (λ (b : Bool). cond b (with_data_in (last_word s.words) s line) (with_word (section_of (first_field line.fields)) s line)) d
      ∙ ap (λ o. with_data_in o s line) (sym l)

  pub no_end : false ≡ ends line
  no_end = λ i. not (sym d i) && is_end (section_of (first_field line.fields))

-- a data line that its section takes is taken
pub data_holds : {B H : Type 0} (st new : Tables B H) (s : Sections) (line : Line) → HoldsSections st s → line.is_data ≡ true → (limits_fields st.order.last && not (list_all is_field line.fields)) ≡ false
    → (section_fault st.order.last s line ≡ None) × HoldsSections new (with_data_in st.order.last s line) → (line_fault s line ≡ None) × (false ≡ ends line) × HoldsSections new (with_line s line)
data_holds st new s line h d b t = (
  fault_by_section s line d st.order.last h.order.last b ∙ t.0,
  no_end s line d st.order.last h.order.last,
  subst (λ (u : Sections). HoldsSections new u) (sym (line_at s line d st.order.last h.order.last)) t.1,
)

-- the tables where no column and no number of a row has come
module _ {B H : Type 0} (st : Tables B H) (s : Sections) (h : HoldsSections st s) (l : last_word s.words ≡ Some section.Rows) where
  before_columns : nat_lt (stage s.words) 4 ≡ true
  before_columns = ap (λ o. nat_lt (stage_of o) 4) l

  pub rows_before : st.columns.rows ≡ new_rows (table st.rows.entries)
  rows_before = h.entries.terms ∙ ap (λ ls. map (row_so_far (objective_name (table st.rows.entries)) (entries_of ls)) (table st.rows.entries)) (h.no_columns before_columns)

  none_given : (ranged : Bool) (sides : Sides) (lines : List Line) (new : List (List ℕ × RowType)) → lines ≡ [] → HasSideLines ranged (rows_of s.rows) sides lines → HasSideLines ranged new sides lines
  none_given ranged sides lines new e k = record {
    sides = subst (λ ls. HasSides ranged new sides (sides_of ls)) (sym e) (sides_none ranged (rows_of s.rows) new sides (subst (λ ls. HasSides ranged (rows_of s.rows) sides (sides_of ls)) e k.sides));
    group = k.group;
  }

  -- one more row
  pub rows_hold : (new : Tables B H) (line : Line) → new ≡ record st { rows = new.rows; count = new.count; columns = record st.columns { rows = new.columns.rows } }
      → table new.rows.entries ≡ rows_of (line ∷ s.rows) → new.columns.rows ≡ new_rows (table new.rows.entries) → HoldsSections new (with_data_in (Some section.Rows) s line)
  rows_hold new line e r k = subst (λ (n : Tables B H). HoldsSections n (record s { rows = line ∷ s.rows })) (sym e) (record {
    order = record { last = h.order.last; rhs = h.order.rhs; ranges = h.order.ranges; bounds = h.order.bounds; sense = h.order.sense; asked_for = h.order.asked_for };
    rows_at = h.rows_at;
    rows = r;
    entries = record {
      columns = h.entries.columns;
      last = h.entries.last;
      place = h.entries.place;
      terms = k ∙ sym (ap (λ ls. map (row_so_far (objective_name (table new.rows.entries)) (entries_of ls)) (table new.rows.entries)) (h.no_columns before_columns));
    };
    no_columns = h.no_columns;
    marked_is = h.marked_is;
    rhs = none_given false st.rhs s.rhs (rows_of (line ∷ s.rows)) (h.no_rhs before_columns) h.rhs;
    no_rhs = h.no_rhs;
    ranges = none_given true st.ranges s.ranges (rows_of (line ∷ s.rows)) (h.no_ranges before_columns) h.ranges;
    no_ranges = h.no_ranges;
    bounds = h.bounds;
  })

-- one more line of BOUNDS
pub bounds_hold : {B H : Type 0} (st new : Tables B H) (s : Sections) (line : Line) → HoldsSections st s → new ≡ record st { bounds = new.bounds }
    → HasBounds new.bounds (with_bound (bound_at line.fields) (bounds_of s.bounds)) → HoldsSections new (record s { bounds = line ∷ s.bounds })
bounds_hold {B} {H} st new s line h e c = subst (λ (n : Tables B H). HoldsSections n (record s { bounds = line ∷ s.bounds })) (sym e) (record {
  order = record { last = h.order.last; rhs = h.order.rhs; ranges = h.order.ranges; bounds = h.order.bounds; sense = h.order.sense; asked_for = h.order.asked_for };
  rows_at = h.rows_at;
  rows = h.rows;
  entries = h.entries;
  no_columns = h.no_columns;
  marked_is = h.marked_is;
  rhs = h.rhs;
  ranges = h.ranges;
  no_rhs = h.no_rhs;
  no_ranges = h.no_ranges;
  bounds = c;
})

-- what may still stand before COLUMNS came after nothing later
pub early : (words : List Section) (word : Section) → may_follow words word ≡ true → nat_lt (stage (word ∷ words)) 4 ≡ true → nat_lt (stage words) 4 ≡ true
early words section.Name m l = let e : stage words ≡ 0 = grind arith in ap (λ n. nat_lt n 4) e
early words section.ObjSense m l = grind arith
early words section.Rows m l = grind arith
early words section.Columns m l = cc
early words section.Rhs m l = cc
early words section.Ranges m l = cc
early words section.Bounds m l = cc
early words section.EndData m l = cc

module _ {B H : Type 0} (st : Tables B H) (s : Sections) (line : Line) (h : HoldsSections st s) where
  held_order : (word : Section) → HasOrder (order_after word (rest_of line) st.order) (with_word (Some word) s line)
  held_order word = order_held st.order s h.order line word

  pub word_holds : (word : Section) → may_follow s.words word ≡ true → HoldsSections (with_section word (rest_of line) line.number st) (with_word (Some word) s line)
  word_holds section.Name m = record { order = held_order section.Name; rows_at = h.rows_at; rows = h.rows; entries = h.entries; no_columns = λ l. h.no_columns (early s.words section.Name m l); marked_is = h.marked_is; rhs = h.rhs; ranges = h.ranges; no_rhs = λ l. h.no_rhs (early s.words section.Name m l); no_ranges = λ l. h.no_ranges (early s.words section.Name m l); bounds = h.bounds }
  word_holds section.ObjSense m = record { order = held_order section.ObjSense; rows_at = h.rows_at; rows = h.rows; entries = h.entries; no_columns = λ l. h.no_columns (early s.words section.ObjSense m l); marked_is = h.marked_is; rhs = h.rhs; ranges = h.ranges; no_rhs = λ l. h.no_rhs (early s.words section.ObjSense m l); no_ranges = λ l. h.no_ranges (early s.words section.ObjSense m l); bounds = h.bounds }
  word_holds section.Rows m = record { order = held_order section.Rows; rows_at = refl; rows = h.rows; entries = h.entries; no_columns = λ l. h.no_columns (early s.words section.Rows m l); marked_is = h.marked_is; rhs = h.rhs; ranges = h.ranges; no_rhs = λ l. h.no_rhs (early s.words section.Rows m l); no_ranges = λ l. h.no_ranges (early s.words section.Rows m l); bounds = h.bounds }
  word_holds section.Columns m = record { order = held_order section.Columns; rows_at = h.rows_at; rows = h.rows; entries = h.entries; no_columns = λ l. h.no_columns (early s.words section.Columns m l); marked_is = h.marked_is; rhs = h.rhs; ranges = h.ranges; no_rhs = λ l. h.no_rhs (early s.words section.Columns m l); no_ranges = λ l. h.no_ranges (early s.words section.Columns m l); bounds = h.bounds }
  word_holds section.Rhs m = record { order = held_order section.Rhs; rows_at = h.rows_at; rows = h.rows; entries = h.entries; no_columns = λ l. h.no_columns (early s.words section.Rhs m l); marked_is = h.marked_is; rhs = h.rhs; ranges = h.ranges; no_rhs = λ l. h.no_rhs (early s.words section.Rhs m l); no_ranges = λ l. h.no_ranges (early s.words section.Rhs m l); bounds = h.bounds }
  word_holds section.Ranges m = record { order = held_order section.Ranges; rows_at = h.rows_at; rows = h.rows; entries = h.entries; no_columns = λ l. h.no_columns (early s.words section.Ranges m l); marked_is = h.marked_is; rhs = h.rhs; ranges = h.ranges; no_rhs = λ l. h.no_rhs (early s.words section.Ranges m l); no_ranges = λ l. h.no_ranges (early s.words section.Ranges m l); bounds = h.bounds }
  word_holds section.Bounds m = record { order = held_order section.Bounds; rows_at = h.rows_at; rows = h.rows; entries = h.entries; no_columns = λ l. h.no_columns (early s.words section.Bounds m l); marked_is = h.marked_is; rhs = h.rhs; ranges = h.ranges; no_rhs = λ l. h.no_rhs (early s.words section.Bounds m l); no_ranges = λ l. h.no_ranges (early s.words section.Bounds m l); bounds = h.bounds }
  word_holds section.EndData m = record { order = held_order section.EndData; rows_at = h.rows_at; rows = h.rows; entries = h.entries; no_columns = λ l. h.no_columns (early s.words section.EndData m l); marked_is = h.marked_is; rhs = h.rhs; ranges = h.ranges; no_rhs = λ l. h.no_rhs (early s.words section.EndData m l); no_ranges = λ l. h.no_ranges (early s.words section.EndData m l); bounds = h.bounds }

-- a section line without a fault has a word that may follow
pub word_of : (s : Sections) (rest : List (List ℕ)) (word : Section) → word_fault s rest (Some word) ≡ None → may_follow s.words word ≡ true
word_of s rest word h = by (may_follow s.words word) ((stage s.words == 2) && (length s.senses == 0)) h
  where
    by : (m b : Bool) → (when (not m || b) kind.BadSection <|> rest_fault word rest) ≡ None → m ≡ true
    by true b h = refl
    by false b h = cc

module _ (s : Sections) (line : Line) (d : line.is_data ≡ false) where
  pub fault_of_word : line_fault s line ≡ word_fault s (drop 1 line.fields) (section_of (first_field line.fields))
  fault_of_word = ap (λ (b : Bool). cond b (data_fault_in (last_word s.words) s line) (word_fault s (drop 1 line.fields) (section_of (first_field line.fields)))) d

  pub line_of_word : with_line s line ≡ with_word (section_of (first_field line.fields)) s line
  line_of_word = ap (λ (b : Bool). cond b (with_data_in (last_word s.words) s line) (with_word (section_of (first_field line.fields)) s line)) d

-- ---- a line of a known section word
module _ {B H : Type 0} (st new : Tables B H) (s : Sections) (line : Line) (h : HoldsSections st s) (d : line.is_data ≡ false) (word : Section) (w : section_of (first_field line.fields) ≡ Some word) where
  pub known_fault : line_fault s line ≡ word_fault s (drop 1 line.fields) (Some word)
  known_fault = fault_of_word s line d ∙ ap (λ o. word_fault s (drop 1 line.fields) o) w

  pub known_fine : word_fault s (drop 1 line.fields) (Some word) ≡ None → new ≡ with_section word (rest_of line) line.number st
      → (line_fault s line ≡ None) × (is_end (Some word) ≡ ends line) × HoldsSections new (with_line s line)
  known_fine f e = (
    known_fault ∙ f,
    (λ i. not (sym d i) && is_end (sym w i)),
    subst (λ (t : Sections). HoldsSections new t) (sym (line_of_word s line d ∙ ap (λ o. with_word o s line) w))
        (subst (λ (n : Tables B H). HoldsSections n (with_word (Some word) s line)) (sym e) (word_holds st s line h word (word_of s (drop 1 line.fields) word f))),
  )
