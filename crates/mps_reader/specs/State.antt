-- The reader's tables after the lines before.
use Rattle.std.specs.Prelude.{◌≡◌, ℕ, List, map, Option, Some, None, length, suc}
use Rattle.mps_reader.specs.Meaning.{objective_name, place}
use Rattle.mps_reader.specs.RowsSoFar.{row_so_far}
use Rattle.mps_reader.specs.Sections.{DeclaredColumns, DeclaredRows, Entry, columns_of, last_of}
use Rattle.mps_reader.specs.Tables.{table, bytes_of}
use Rattle.mps_reader.specs.declared.columns.Columns.{Columns}

-- the last column stands at this place, behind all others
abbrev pub IsLastAt : DeclaredColumns → Option (List ℕ) → ℕ → Type 0
IsLastAt columns None p = Unit {0}
IsLastAt columns (Some name) p = (place columns name ≡ p) × (suc p ≡ length columns)

-- the state of the columns is that of these entries, among these rows
pub record HasEntries {B H : Type 0} (s : Columns B H) (rows : DeclaredRows) (entries : List Entry) : Type 0 where
  pub columns : table s.columns.entries ≡ columns_of entries
  pub last : bytes_of s.last ≡ last_of entries
  pub place : IsLastAt (columns_of entries) (last_of entries) s.place
  pub terms : s.rows ≡ map (row_so_far (objective_name rows) entries) rows
