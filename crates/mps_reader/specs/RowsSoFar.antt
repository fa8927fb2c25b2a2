-- What the columns so far say of each row.
use Rattle.std.specs.Prelude.{◌≡◌, ℕ, ◌-◌, ◌<◌, Bool, true, false, ◌||◌, if◌then◌else◌, List, ◌∷◌, map, Option, Some, None, is_some, length, []}
use Rattle.std.specs.List.{position, IsDistinct}
use Rattle.std.specs.Str.{bytes_eq}
use denote.Ref.{Bor}
use Rattle.mps_reader.specs.Faults.{is_counted}
use Rattle.mps_reader.specs.Meaning.{objective_name, terms_of}
use Rattle.mps_reader.specs.RowState.{RowState}
use Rattle.mps_reader.specs.Sections.{DeclaredColumns, DeclaredRows, Entry, columns_of, is_same}
use Rattle.mps_reader.specs.Tables.{table}
use Rattle.mps_reader.specs.Words.{value_under}
use Rattle.mps_reader.specs.declared.kinds.RowType.{RowType}
use Rattle.problem.specs.Limits.{most_columns}

-- the place of the last column
abbrev pub last_place : List Entry → ℕ
last_place entries = length (columns_of entries) - 1

-- the place of the column that named a row last
abbrev pub named_last : List ℕ → List Entry → Option ℕ
named_last name [] = None
named_last name (e ∷ earlier) = if bytes_eq e.row name then Some (last_place (e ∷ earlier)) else named_last name earlier

-- whether the terms of a row count, by the name of the first N row, which is the objective
abbrev pub keeps_by : Option (List ℕ) → List ℕ × RowType → Bool
keeps_by objective r = is_counted r.1 || is_same objective r.0

-- a row after these entries, by the name of the first N row
abbrev pub row_so_far : Option (List ℕ) → List Entry → List ℕ × RowType → RowState
row_so_far objective entries r = record { terms = if keeps_by objective r then Some (terms_of r.0 entries) else None; named_by = named_last r.0 entries }

-- a row of this name stands at this index, and there alone
pub record IsRowAt (es : List (Bor (List ℕ) × RowType)) (name : List ℕ) (i : ℕ) : Type 0 where
  pub known : is_some (value_under (table es) name) ≡ true
  pub at : Some i ≡ position (λ k. bytes_eq name k.now) (map (λ e. e.0) es)
  pub within : i < length es
  pub distinct : IsDistinct (λ a b. bytes_eq a.now b.now) (map (λ e. e.0) es)

-- a column that isn't the last one is new, and there is room for it
abbrev pub IsNew : Bool → DeclaredColumns → List ℕ → Type 0
IsNew same columns name = same ≡ false → (is_some (value_under columns name) ≡ false) × (length columns < most_columns)

-- the rows that no column names
abbrev pub new_rows : DeclaredRows → List RowState
new_rows rows = map (row_so_far (objective_name rows) []) rows
