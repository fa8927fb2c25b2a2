-- The reader's tables are those of the sections so far.
use Rattle.std.specs.Prelude.{◌≡◌, ℕ, Bool, true, false, nat_lt, drop, List, Option, None, Result, OnOk, IfOk, IfErr, []}
use Rattle.mps_lines.specs.Lines.{Line}
use Rattle.mps_reader.specs.BoundTables.{HasBounds}
use Rattle.mps_reader.specs.Faults.{counted, line_fault, section_fault, stage}
use Rattle.mps_reader.specs.SectionOrder.{HasOrder, order_after}
use Rattle.mps_reader.specs.Sections.{Sections, rows_of, entries_of, is_behind_intorg, bounds_of, with_data_in, with_line}
use Rattle.mps_reader.specs.Reading.{ends}
use Rattle.mps_reader.specs.SideLines.{HasSideLines}
use Rattle.mps_reader.specs.State.{HasEntries}
use Rattle.mps_reader.specs.Tables.{Stops, table}
use Rattle.mps_reader.specs.declared.kinds.Section.{Section}
use Rattle.mps_reader.specs.declared.kinds.Section.TheVariants as section
use Rattle.mps_reader.specs.declared.kinds.Stop.{Stop}
use Rattle.mps_reader.specs.declared.tables.Tables.{Tables}

-- the tables are those of the sections; no column, no right side and no range stands before COLUMNS
pub record HoldsSections {B H : Type 0} (st : Tables B H) (s : Sections) : Type 0 where
  pub order : HasOrder st.order s
  pub rows_at : st.rows_at ≡ s.rows_at
  pub rows : table st.rows.entries ≡ rows_of s.rows
  pub entries : HasEntries st.columns (table st.rows.entries) (entries_of s.columns)
  pub no_columns : nat_lt (stage s.words) 4 ≡ true → s.columns ≡ []
  pub marked_is : st.is_marked ≡ is_behind_intorg s.columns
  pub rhs : HasSideLines false (rows_of s.rows) st.rhs s.rhs
  pub ranges : HasSideLines true (rows_of s.rows) st.ranges s.ranges
  pub no_rhs : nat_lt (stage s.words) 4 ≡ true → s.rhs ≡ []
  pub no_ranges : nat_lt (stage s.words) 4 ≡ true → s.ranges ≡ []
  pub bounds : HasBounds st.bounds (bounds_of s.bounds)

-- the count of rows is that of the rows that count
abbrev pub CountsRows : {B H : Type 0} → Tables B H → Type 0
CountsRows st = st.count ≡ counted (table st.rows.entries)

-- a data line of this section, with fields within the limits, is taken: it has no fault and the tables are those of the sections with it,
-- or its fault is told
abbrev pub TakesLine : {B H : Type 0} → Option Section → Tables B H → Tables B H → Line → Result Unit Stop → Type 0
TakesLine section before after line result = (s : Sections) → HoldsSections before s → before.order.last ≡ section
    → OnOk result ((section_fault section s line ≡ None) × HoldsSections after (with_data_in section s line)) × IfErr result (λ stop. Stops stop (section_fault section s line))

-- any line is taken: it has no fault, the answer says whether it is the end, and the tables are those of the sections with it, or its fault is told
abbrev pub Steps : {B H : Type 0} → Tables B H → Tables B H → Line → Result Bool Stop → Type 0
Steps before after line result = (s : Sections) → HoldsSections before s
    → IfOk result (λ last. (line_fault s line ≡ None) × (last ≡ ends line) × HoldsSections after (with_line s line)) × IfErr result (λ stop. Stops stop (line_fault s line))

-- ---- a section line
-- the tables after a section word on the line of this number, with this behind it
abbrev pub with_section : {B H : Type 0} → Section → List (List ℕ) → ℕ → Tables B H → Tables B H
with_section section.Rows rest number st = record st { order = order_after section.Rows rest st.order; rows_at = number }
with_section word rest number st = record st { order = order_after word rest st.order }

-- what stands on a section line behind its word
abbrev pub rest_of : Line → List (List ℕ)
rest_of line = drop 1 line.fields
