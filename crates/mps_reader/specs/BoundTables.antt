-- The table of bounds after the lines before.
use Rattle.std.specs.Prelude.{◌≡◌, ℕ, List, Option, Result}
use Rattle.std.specs.Option.{unwrap_or}
use Rattle.problem_box.specs.declared.span.Span.{Span}
use Rattle.mps_reader.specs.BoundLines.{no_limits, summary_of}
use Rattle.mps_reader.specs.Meaning.{columns_end_fault, spans_of, unless_fault}
use Rattle.mps_reader.specs.Sections.{Bound, DeclaredColumns, bound_set}
use Rattle.mps_reader.specs.Tables.{table, bytes_of}
use Rattle.mps_reader.specs.Words.{value_under}
use Rattle.mps_reader.specs.declared.kinds.Kind.{Kind}
use Rattle.mps_reader.specs.declared.bounds.Bounds.{Bounds}
use Rattle.mps_reader.specs.declared.bounds.Written.{Written}
use Rattle.mps_reader.specs.declared.limits.ColumnBounds.{ColumnBounds}

-- a line as the definitions have it
abbrev pub bound_of : Written → Bound
bound_of b = record { type = b.kind; group = bytes_of b.group; column = b.column.now; value = b.value.now }

-- what a table says of a column: one that isn't there has no line
abbrev pub summary_in : List (List ℕ × ColumnBounds) → List ℕ → ColumnBounds
summary_in limits name = unwrap_or (value_under limits name) no_limits

-- the table says of each column what these lines say
pub record HasBounds {B H : Type 0} (st : Bounds B H) (bounds : List Bound) : Type 0 where
  pub limits : (name : List ℕ) → summary_in (table st.limits.entries) name ≡ summary_of name bounds
  pub group : bytes_of st.group ≡ bound_set bounds

-- the spans of columns by a table of bounds, or the first column's fault at the end
abbrev pub spans_or_fault : Option ℕ → List (List ℕ × ColumnBounds) → DeclaredColumns → Result (List Span) (ℕ × Kind)
spans_or_fault upper limits columns = unless_fault (columns_end_fault upper (summary_in limits) columns) (spans_of upper (summary_in limits) columns)
