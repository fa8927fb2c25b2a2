-- Where a known row stands.
use Rattle.std.specs.Prelude.{◌<◌, ℕ, ℤ, pos, List, map, length, slice_index_or}
use Rattle.problem_box.specs.declared.span.Span.{Span}
use Rattle.problem.specs.declared.row.Row.{Row}
use Rattle.problem.specs.Problem.{Problem}
use Rattle.cert_rows.specs.Lines.{no_cert_line}
use Rattle.cert_rows.specs.Validity.{lower_row, upper_row}
use Rattle.derivation_book.specs.declared.cut.Cut.{Cut}
use Rattle.derivation_book.specs.declared.place.Place.{Place}
use Rattle.derivation_book.specs.declared.place.Place.TheVariants.{Given, Lower, Upper, OfCut}

-- 0 alone, for a column that isn't there
abbrev pub no_span : Span
no_span = record { lo = pos 0; hi = pos 0 }

-- the rows of a column's bounds
abbrev pub lower_row_at : ℕ → ℤ → Row
lower_row_at j b = lower_row j (record { lo = b; hi = b })

-- the row that says that column j is at most b
abbrev pub upper_row_at : ℕ → ℤ → Row
upper_row_at j b = upper_row j (record { lo = b; hi = b })

-- the row that stands there
abbrev pub row_in : Problem → List Cut → Place → Row
row_in p cs (Given i) = slice_index_or p.rows i no_cert_line.row
row_in p cs (Lower j) = lower_row j (slice_index_or p.spans j no_span)
row_in p cs (Upper j) = upper_row j (slice_index_or p.spans j no_span)
row_in p cs (OfCut i) = slice_index_or (map (λ (c : Cut). c.row) cs) i no_cert_line.row

-- the problem has this row or bound, or there is this cut
abbrev pub IsThere : Problem → List Cut → Place → Type 0
IsThere p cs (Given i) = i < length p.rows
IsThere p cs (Lower j) = j < length p.spans
IsThere p cs (Upper j) = j < length p.spans
IsThere p cs (OfCut i) = i < length cs
