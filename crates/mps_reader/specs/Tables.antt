-- A table of names as a list.
use Rattle.mps_reader.specs.Sections.{Entry}
use Rattle.mps_reader.specs.declared.columns.Cell.{Cell}
use Rattle.std.specs.Prelude.{◌≡◌, ℕ, List, map, Option, Some, None}
use denote.Ref.{Bor}
use Rattle.mps_reader.specs.declared.kinds.Kind.{Kind}
use Rattle.mps_reader.specs.declared.kinds.Stop.{Stop}
use Rattle.mps_reader.specs.declared.kinds.Stop.TheVariants as stop

-- the texts that references point to
abbrev pub texts : List (Bor (List ℕ)) → List (List ℕ)
texts fields = map (λ f. f.now) fields

-- a table as a list of names with what stands under them
abbrev pub table : {V : Type 0} → List (Bor (List ℕ) × V) → List (List ℕ × V)
table entries = map (λ e. (e.0.now, e.1)) entries

-- the text that a reference points to, where there is one
abbrev pub bytes_of : Option (Bor (List ℕ)) → Option (List ℕ)
bytes_of None = None
bytes_of (Some f) = Some f.now

-- an entry as the definitions have it
abbrev pub entry_of : Cell → Entry
entry_of e = record { column = e.column.now; row = e.row.now; value = e.value.now; line = e.line; is_marked = e.is_marked }

-- a fault is the one that is defined
abbrev pub Stops : Stop → Option Kind → Type 0
Stops (stop.Fault k) fault = fault ≡ Some k
Stops stop.Memory fault = Unit {0}
