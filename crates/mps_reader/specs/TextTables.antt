-- The reader's tables of a text up to ENDATA, or the text's first fault.
use Rattle.std.specs.Prelude.{◌≡◌, ℕ, true, false, List, Result, Ok, Err}
use Rattle.mps_reader.specs.BoundTables.{HasBounds}
use Rattle.mps_reader.specs.Reading.{sections_in}
use Rattle.mps_reader.specs.Sections.{Sections, asked, rows_of, entries_of, bounds_of}
use Rattle.mps_reader.specs.SideLines.{HasSideLines}
use Rattle.mps_reader.specs.State.{HasEntries}
use Rattle.mps_reader.specs.Tables.{table}
use Rattle.mps_reader.specs.declared.kinds.Kind.{Kind}
use Rattle.mps_reader.specs.declared.kinds.Stop.{Stop}
use Rattle.mps_reader.specs.declared.kinds.Stop.TheVariants as stop
use Rattle.mps_reader.specs.declared.reading.ReadFault.{ReadFault}
use Rattle.mps_reader.specs.declared.reading.ReadFault.TheVariants as fault
use Rattle.mps_reader.specs.declared.tables.Tables.{Tables}

-- a fault is the one that is defined; want of memory says nothing
abbrev pub IsFaultOf : {A : Type 0} → ReadFault → Result A (ℕ × Kind) → Type 0
IsFaultOf (fault.Refused line k) r = r ≡ Err (line, k)
IsFaultOf fault.Memory r = Unit {0}

-- why the reading stopped at this line
abbrev pub fault_at : ℕ → Stop → ReadFault
fault_at line (stop.Fault k) = fault.Refused line k
fault_at line stop.Memory = fault.Memory

-- the tables are those of the sections at ENDATA
pub record HasData {B H : Type 0} (st : Tables B H) (s : Sections) : Type 0 where
  pub sense : st.order.sense ≡ asked s.senses
  pub rows_at : st.rows_at ≡ s.rows_at
  pub rows : table st.rows.entries ≡ rows_of s.rows
  pub entries : HasEntries st.columns (table st.rows.entries) (entries_of s.columns)
  pub rhs : HasSideLines false (rows_of s.rows) st.rhs s.rhs
  pub ranges : HasSideLines true (rows_of s.rows) st.ranges s.ranges
  pub bounds : HasBounds st.bounds (bounds_of s.bounds)

-- the tables are those of a text up to ENDATA
pub record HasSectionsOf {B H : Type 0} (text : List ℕ) (st : Tables B H) : Type 0 where
  pub s : Sections
  pub tables : HasData st s
  pub found : sections_in text ≡ Ok s
