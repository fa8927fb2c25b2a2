-- What a table of rows says of each row, where only the rows whose terms count hold them.
use Rattle.std.specs.Prelude.{ℕ, ◌==◌, if◌then◌else◌, List, ◌∷◌, Option, Some, None, suc, slice_get, []}
use Rattle.mps_reader.specs.RowState.{RowState, bare_row}
use Rattle.mps_reader.specs.declared.row_table.RowEntry.{RowEntry}
use Rattle.mps_reader.specs.declared.row_table.RowEntry.TheVariants as entry
use Rattle.mps_reader.specs.declared.row_terms.TermRow.{TermRow}

-- the state of a row that keeps its terms
abbrev pub state_of : TermRow → RowState
state_of r = record { terms = Some r.terms; named_by = r.named_by }

-- the row at an index, by the terms that its entry leads to: these may be another's
abbrev pub own_state : ℕ → Option TermRow → RowState
own_state i None = bare_row
own_state i (Some r) = if r.row == i then state_of r else bare_row

-- the row at an index, by its entry
abbrev pub state_at : List TermRow → ℕ → RowEntry → RowState
state_at kept i entry.Unnamed = bare_row
state_at kept i (entry.NamedBy p) = record { terms = None; named_by = Some p }
state_at kept i (entry.Keeps s) = own_state i (slice_get kept s)

-- the rows from an index on, by their entries
abbrev pub row_states_from : List TermRow → ℕ → List RowEntry → List RowState
row_states_from kept i [] = []
row_states_from kept i (e ∷ entries) = state_at kept i e ∷ row_states_from kept (suc i) entries

-- the rows of a table
abbrev pub row_states : List TermRow → List RowEntry → List RowState
row_states kept entries = row_states_from kept 0 entries
