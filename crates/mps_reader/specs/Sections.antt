-- The lines of a text by their sections.
use Rattle.std.specs.Prelude.{ℕ, Bool, true, false, if◌then◌else◌, List, ◌∷◌, ◌++◌, Option, Some, None, drop, codes, Result, Ok, Err, pos, []}
use Rattle.std.proofs.Common.{get_or}
use Rattle.std.specs.Option.{option_or, unwrap_or}
use Rattle.std.specs.Str.{bytes_eq}
use Rattle.fraction.specs.Rational.{ℚ, whole}
use Rattle.mps_lines.specs.Decimals.{decimal}
use Rattle.mps_lines.specs.declared.decimals.NumFault.{NumFault}
use Rattle.mps_lines.specs.Lines.{Line}
use Rattle.mps_reader.specs.declared.kinds.Column.{Column}
use Rattle.mps_reader.specs.Words.{section_of, sense_of, row_type_of, bound_type_of, marker_of}
use Rattle.problem.specs.declared.objective_sense.ObjectiveSense.{ObjectiveSense}
use Rattle.problem.specs.declared.objective_sense.ObjectiveSense.TheVariants.{Minimise}
use Rattle.mps_reader.specs.declared.kinds.Section.{Section}
use Rattle.mps_reader.specs.declared.kinds.Section.TheVariants as section
use Rattle.mps_reader.specs.declared.kinds.RowType.{RowType}
use Rattle.mps_reader.specs.declared.kinds.BoundType.{BoundType}
use Rattle.mps_reader.specs.declared.kinds.BoundType.TheVariants as bound

-- the lines so far, each list with the last one first: section words, the words of OBJSENSE, and the data lines of each section
pub record Sections : Type 0 where
  pub words : List Section
  pub senses : List (List ℕ)
  pub rows_at : ℕ
  pub rows : List Line
  pub columns : List Line
  pub rhs : List Line
  pub ranges : List Line
  pub bounds : List Line

-- before the first line
abbrev pub none_yet : Sections
none_yet = record { words = []; senses = []; rows_at = 0; rows = []; columns = []; rhs = []; ranges = []; bounds = [] }

-- the section that the lines stand in
abbrev pub last_word : List Section → Option Section
last_word [] = None
last_word (word ∷ words) = Some word

-- the lines so far and one more data line of this section
abbrev pub with_data_in : Option Section → Sections → Line → Sections
with_data_in (Some section.ObjSense) s line = record s { senses = line.fields ++ s.senses }
with_data_in (Some section.Rows) s line = record s { rows = line ∷ s.rows }
with_data_in (Some section.Columns) s line = record s { columns = line ∷ s.columns }
with_data_in (Some section.Rhs) s line = record s { rhs = line ∷ s.rhs }
with_data_in (Some section.Ranges) s line = record s { ranges = line ∷ s.ranges }
with_data_in (Some section.Bounds) s line = record s { bounds = line ∷ s.bounds }
with_data_in _ s line = s

-- the lines so far and one more section line with this word
abbrev pub with_word : Option Section → Sections → Line → Sections
with_word None s line = s
with_word (Some section.ObjSense) s line = record s { words = section.ObjSense ∷ s.words; senses = drop 1 line.fields }
with_word (Some section.Rows) s line = record s { words = section.Rows ∷ s.words; rows_at = line.number }
with_word (Some word) s line = record s { words = word ∷ s.words }

-- the data line of this number with these fields
abbrev pub data_line : ℕ → List (List ℕ) → Line
data_line number fields = record { number = number; is_data = true; fields = fields }

-- the first field of a line
abbrev pub first_field : List (List ℕ) → List ℕ
first_field fields = get_or fields 0 []

-- the lines so far and one more
abbrev pub with_line : Sections → Line → Sections
with_line s line = if line.is_data then with_data_in (last_word s.words) s line else with_word (section_of (first_field line.fields)) s line

-- OBJSENSE: the sense that its words ask for; without a word the objective is minimised
abbrev pub asked : List (List ℕ) → ObjectiveSense
asked [] = Minimise
asked (word ∷ words) = unwrap_or (sense_of word) Minimise

-- ROWS: names with their types, in order
abbrev pub DeclaredRows : Type 0
DeclaredRows = List (List ℕ × RowType)

-- a row with its type, where the word is one
abbrev pub row_typed : List ℕ → Option RowType → DeclaredRows
row_typed name None = []
row_typed name (Some type) = (name, type) ∷ []

-- the row of a data line of ROWS
abbrev pub row_entry : List (List ℕ) → DeclaredRows
row_entry (type ∷ name ∷ []) = row_typed name (row_type_of type)
row_entry _ = []

-- the rows in order, of the lines of ROWS
abbrev pub rows_of : List Line → DeclaredRows
rows_of [] = []
rows_of (line ∷ earlier) = rows_of earlier ++ row_entry line.fields

-- rows with the fields of their values
abbrev pub RowValues : Type 0
RowValues = List (List ℕ × List ℕ)

-- a row and a value, or two rows with their values
abbrev pub pairs_of : List (List ℕ) → Option RowValues
pairs_of (row ∷ value ∷ []) = Some ((row, value) ∷ [])
pairs_of (row ∷ value ∷ row2 ∷ value2 ∷ []) = Some ((row, value) ∷ (row2, value2) ∷ [])
pairs_of _ = None

-- COLUMNS: a marker, and whether it begins whole columns
abbrev pub marker : List (List ℕ) → Option Bool
marker (name ∷ word ∷ which ∷ []) = if bytes_eq word (codes "'MARKER'") then marker_of which else None
marker _ = None

-- whether the last marker begins whole columns
abbrev pub is_behind_intorg : List Line → Bool
is_behind_intorg [] = false
is_behind_intorg (line ∷ earlier) = unwrap_or (marker line.fields) (is_behind_intorg earlier)

-- a row of a column, with its line and whether a marker makes it whole there
pub record Entry : Type 0 where
  pub column : List ℕ
  pub row : List ℕ
  pub value : List ℕ
  pub line : ℕ
  pub is_marked : Bool

-- the entry of a column for a row with its value
abbrev pub entry : ℕ → Bool → List ℕ → List ℕ × List ℕ → Entry
entry line is_marked column pair = record { column = column; row = pair.0; value = pair.1; line = line; is_marked = is_marked }

-- the entries and those of some rows with their values
abbrev pub with_pairs : (List ℕ × List ℕ → Entry) → Option RowValues → List Entry → List Entry
with_pairs make None entries = entries
with_pairs make (Some []) entries = entries
with_pairs make (Some (pair ∷ pairs)) entries = with_pairs make (Some pairs) (make pair ∷ entries)

-- the entries and those of a data line of COLUMNS; a marker has none
abbrev pub with_column_line : ℕ → Bool → Option Bool → List (List ℕ) → List Entry → List Entry
with_column_line number is_marked (Some which) fields entries = entries
with_column_line number is_marked None [] entries = entries
with_column_line number is_marked None (column ∷ rest) entries = with_pairs (entry number is_marked column) (pairs_of rest) entries

-- the entries of COLUMNS, the last one first
abbrev pub entries_of : List Line → List Entry
entries_of [] = []
entries_of (line ∷ earlier) = with_column_line line.number (is_behind_intorg earlier) (marker line.fields) line.fields (entries_of earlier)

-- the column of the last entry
abbrev pub last_of : List Entry → Option (List ℕ)
last_of [] = None
last_of (e ∷ earlier) = Some e.column

-- the column is the one of the last entry
abbrev pub is_same : Option (List ℕ) → List ℕ → Bool
is_same None column = false
is_same (Some last) column = bytes_eq column last

-- names with where their columns begin, in order
abbrev pub DeclaredColumns : Type 0
DeclaredColumns = List (List ℕ × Column)

-- the columns in order: an entry that doesn't stand with one of its column begins one
abbrev pub with_column : Bool → DeclaredColumns → Entry → DeclaredColumns
with_column same columns e = if same then columns else columns ++ (e.column, record { line = e.line; is_marked = e.is_marked }) ∷ []

-- the columns in order, of the entries
abbrev pub columns_of : List Entry → DeclaredColumns
columns_of [] = []
columns_of (e ∷ earlier) = with_column (is_same (last_of earlier) e.column) (columns_of earlier) e

-- the number that was read, or 0
abbrev pub amount_in : Result ℚ NumFault → ℚ
amount_in (Ok q) = q
amount_in (Err e) = whole (pos 0)

-- the number that a field spells
abbrev pub number : List ℕ → ℚ
number field = amount_in (decimal field)

-- the entries that stand together with the last one: rows with their numbers
abbrev pub with_run : Bool → List (List ℕ × ℚ) → Entry → List (List ℕ × ℚ)
with_run same run e = (if same then run else []) ++ (e.row, number e.value) ∷ []

-- the rows with their numbers that stand together with the last entry
abbrev pub run_of : List Entry → List (List ℕ × ℚ)
run_of [] = []
run_of (e ∷ earlier) = with_run (is_same (last_of earlier) e.column) (run_of earlier) e

-- RHS and RANGES: a set's name or none, and the rows with their values
abbrev pub sides : List (List ℕ) → Option (Option (List ℕ) × RowValues)
sides (row ∷ value ∷ []) = Some (None, (row, value) ∷ [])
sides (group ∷ row ∷ value ∷ []) = Some (Some group, (row, value) ∷ [])
sides (row ∷ value ∷ row2 ∷ value2 ∷ []) = Some (None, (row, value) ∷ (row2, value2) ∷ [])
sides (group ∷ row ∷ value ∷ row2 ∷ value2 ∷ []) = Some (Some group, (row, value) ∷ (row2, value2) ∷ [])
sides _ = None

-- the rows with their values, and those of one more line
abbrev pub with_sides : Option (Option (List ℕ) × RowValues) → RowValues → RowValues
with_sides None before = before
with_sides (Some s) before = before ++ s.1

-- the rows with their values, in order
abbrev pub sides_of : List Line → RowValues
sides_of [] = []
sides_of (line ∷ earlier) = with_sides (sides line.fields) (sides_of earlier)

-- a set's name, where one was written
abbrev pub set_of_sides : Option (Option (List ℕ) × RowValues) → Option (List ℕ) → Option (List ℕ)
set_of_sides None before = before
set_of_sides (Some s) before = option_or s.0 before

-- the name of the set, where one was written, of the lines of RHS or RANGES
abbrev pub side_set : List Line → Option (List ℕ)
side_set [] = None
side_set (line ∷ earlier) = set_of_sides (sides line.fields) (side_set earlier)

-- BOUNDS: the type, a set's name or none, the column, and the value's field
pub record Bound : Type 0 where
  pub type : BoundType
  pub group : Option (List ℕ)
  pub column : List ℕ
  pub value : List ℕ

-- whether a bound of this type has a value
abbrev pub has_value : BoundType → Bool
has_value bound.Fr = false
has_value bound.Mi = false
has_value bound.Pl = false
has_value bound.Bv = false
has_value _ = true

-- the bound of a line whose type has a value
abbrev pub bound_with_value : BoundType → List (List ℕ) → Option Bound
bound_with_value type (column ∷ value ∷ []) = Some (record { type = type; group = None; column = column; value = value })
bound_with_value type (group ∷ column ∷ value ∷ []) = Some (record { type = type; group = Some group; column = column; value = value })
bound_with_value type _ = None

-- the bound of a line whose type has no value; a value that is written is not read
abbrev pub bound_without_value : BoundType → List (List ℕ) → Option Bound
bound_without_value type (column ∷ []) = Some (record { type = type; group = None; column = column; value = [] })
bound_without_value type (group ∷ column ∷ []) = Some (record { type = type; group = Some group; column = column; value = [] })
bound_without_value type (group ∷ column ∷ value ∷ []) = Some (record { type = type; group = Some group; column = column; value = [] })
bound_without_value type _ = None

-- the bound of a line of this type
abbrev pub typed_bound : Option BoundType → List (List ℕ) → Option Bound
typed_bound None rest = None
typed_bound (Some type) rest = if has_value type then bound_with_value type rest else bound_without_value type rest

-- the bound of a data line of BOUNDS
abbrev pub bound_at : List (List ℕ) → Option Bound
bound_at [] = None
bound_at (type ∷ rest) = typed_bound (bound_type_of type) rest

-- the bounds and one more
abbrev pub with_bound : Option Bound → List Bound → List Bound
with_bound None bounds = bounds
with_bound (Some b) bounds = b ∷ bounds

-- the lines of BOUNDS, the last one first
abbrev pub bounds_of : List Line → List Bound
bounds_of [] = []
bounds_of (line ∷ earlier) = with_bound (bound_at line.fields) (bounds_of earlier)

-- the name of the set, where one was written
abbrev pub bound_set : List Bound → Option (List ℕ)
bound_set [] = None
bound_set (b ∷ earlier) = option_or b.group (bound_set earlier)
