-- What the sections of a text say: rows, terms, sides, ranges and bounds.
use Rattle.std.specs.Prelude.{ℕ, Bool, true, false, ◌==◌, ◌&&◌, ◌||◌, not, if◌then◌else◌, List, ◌∷◌, ◌++◌, map, Option, Some, None, Result, Ok, Err, ℤ, pos, neg_ℤ, nat_abs, []}
use Rattle.std.specs.List.{list_any, flat_map, position_or_len}
use Rattle.std.specs.Option.{is_some, option_or, option_map, unwrap_or}
use Rattle.std.specs.Str.{bytes_eq}
use Rattle.std.specs.Int.Signed.{lt_z}
use Rattle.fraction.specs.Rational.{ℚ, whole, neg_ℚ, ◌+ℚ◌, floor, ceil}
use Rattle.fraction.specs.Checked.{abs_ℚ}
use Rattle.problem.specs.declared.row.Sense.{Sense}
use Rattle.problem.specs.declared.row.Sense.TheVariants as sense
use Rattle.problem.specs.Problem.{Problem}
use Rattle.problem_box.specs.declared.span.Span.{Span}
use Rattle.mps_reader.specs.Words.{value_under}
use Rattle.mps_reader.specs.Sections.{Sections, asked, DeclaredRows, DeclaredColumns, RowValues, rows_of, Entry, entries_of, columns_of, number, sides_of, Bound, bounds_of}
use Rattle.mps_lines.specs.Infinities.{infinite}
use Rattle.mps_reader.specs.Faults.{◌<|>◌, when}
use Rattle.mps_reader.specs.declared.kinds.Kind.{Kind}
use Rattle.mps_reader.specs.declared.kinds.Kind.TheVariants as kind
use Rattle.mps_reader.specs.declared.kinds.RowType.{RowType}
use Rattle.mps_reader.specs.declared.kinds.RowType.TheVariants as row
use Rattle.mps_reader.specs.declared.kinds.BoundType.{BoundType}
use Rattle.mps_reader.specs.declared.kinds.BoundType.TheVariants as bound
use Rattle.mps_reader.specs.declared.limits.ColumnBounds.{ColumnBounds}
use Rattle.problem.specs.Linear.{Terms}
use Rattle.problem.specs.Rows.{Rows}

-- the number is 0
abbrev pub is_zero : ℚ → Bool
is_zero q = nat_abs q.num == 0

-- the number is below 0
abbrev pub is_below_zero : ℚ → Bool
is_below_zero q = lt_z q.num (pos 0)

-- Rows

-- the column's place among the columns, from 0 on
abbrev pub place : DeclaredColumns → List ℕ → ℕ
place columns name = position_or_len (λ c. bytes_eq name c.0) columns

-- the terms of a row, in the order of their entries: a zero is no term
abbrev pub terms_of : List ℕ → List Entry → Terms
terms_of name [] = []
terms_of name (e ∷ earlier) =
    terms_of name earlier ++ (if bytes_eq e.row name && not (is_zero (number e.value)) then (place (columns_of (e ∷ earlier)) e.column, number e.value) ∷ [] else [])

-- the row's right side, 0 where RHS has none
abbrev pub side : RowValues → List ℕ → ℚ
side rhs name = unwrap_or (option_map number (value_under rhs name)) (whole (pos 0))

-- the least and the greatest value of a ranged row
abbrev pub range_of : RowType → ℚ → ℚ → ℚ × ℚ
range_of row.G b r = (b, b +ℚ abs_ℚ r)
range_of row.L b r = (b +ℚ neg_ℚ (abs_ℚ r), b)
range_of row.E b r = if is_below_zero r then (b +ℚ r, b) else (b, b +ℚ r)
range_of row.N b r = (b, b)

-- the two rows of a row with a range: at least the one end, at most the other
abbrev pub ranged_rows : ℚ × ℚ → Terms → Rows
ranged_rows ends terms = record { sense = sense.G; rhs = ends.0; terms = terms } ∷ record { sense = sense.L; rhs = ends.1; terms = terms } ∷ []

-- how a row's value stands to its right side; an N row gives none
abbrev pub sense_of_row : RowType → Sense
sense_of_row row.G = sense.G
sense_of_row row.L = sense.L
sense_of_row _ = sense.E

-- the rows of one of ROWS: none of an N row, two of one with a range
abbrev pub rows_from : RowType → ℚ → Option ℚ → Terms → Rows
rows_from row.N b r terms = []
rows_from type b None terms = record { sense = sense_of_row type; rhs = b; terms = terms } ∷ []
rows_from type b (Some r) terms = ranged_rows (range_of type b r) terms

-- the rows of one of ROWS, by its values in COLUMNS, RHS and RANGES
abbrev pub rows_at : List Entry → RowValues → RowValues → List ℕ × RowType → Rows
rows_at entries rhs ranges r = rows_from r.1 (side rhs r.0) (option_map number (value_under ranges r.0)) (terms_of r.0 entries)

-- the first N row
abbrev pub objective_name : DeclaredRows → Option (List ℕ)
objective_name [] = None
objective_name ((name, row.N) ∷ rows) = Some name
objective_name ((name, type) ∷ rows) = objective_name rows

-- Bounds: the last line that sets one decides

-- whether a line of this type says what the upper bound is
abbrev pub sets_upper : BoundType → Bool
sets_upper bound.Lo = false
sets_upper bound.Li = false
sets_upper bound.Mi = false
sets_upper _ = true

-- whether a line of this type says what the lower bound is
abbrev pub sets_lower : BoundType → Bool
sets_lower bound.Up = false
sets_lower bound.Ui = false
sets_lower bound.Pl = false
sets_lower _ = true

-- the bound, or none where the value is an infinity
abbrev pub unless_infinite : Option Bool → ℤ → Option ℤ
unless_infinite (Some negative) z = None
unless_infinite None z = Some z

-- the upper bound by a line that sets it, rounded down; none where the line takes it away
abbrev pub upper_by : BoundType → List ℕ → Option ℤ
upper_by bound.Fr value = None
upper_by bound.Pl value = None
upper_by bound.Bv value = Some (pos 1)
upper_by _ value = unless_infinite (infinite value) (floor (number value))

-- the lower bound by a line that sets it, rounded up; none where the line takes it away
abbrev pub lower_by : BoundType → List ℕ → Option ℤ
lower_by bound.Fr value = None
lower_by bound.Mi value = None
lower_by bound.Bv value = Some (pos 0)
lower_by _ value = unless_infinite (infinite value) (ceil (number value))

-- the column's upper bound by the lines, the last one first; none where no line sets one
abbrev pub upper_of : List ℕ → List Bound → Option ℤ
upper_of name [] = None
upper_of name (b ∷ earlier) = if bytes_eq b.column name && sets_upper b.type then upper_by b.type b.value else upper_of name earlier

-- the column's lower bound by the lines, the last one first; 0 where no line sets one
abbrev pub lower_of : List ℕ → List Bound → Option ℤ
lower_of name [] = Some (pos 0)
lower_of name (b ∷ earlier) = if bytes_eq b.column name && sets_lower b.type then lower_by b.type b.value else lower_of name earlier

-- whether a line of this type makes its column a whole one
abbrev pub makes_whole : BoundType → Bool
makes_whole bound.Bv = true
makes_whole bound.Li = true
makes_whole bound.Ui = true
makes_whole _ = false

-- whether a line makes the column a whole one
abbrev pub is_whole_by : List ℕ → List Bound → Bool
is_whole_by name bounds = list_any (λ b. bytes_eq b.column name && makes_whole b.type) bounds

-- the line is UP or UI with a number below 0
abbrev pub is_negative_up : BoundType → List ℕ → Option Bool → Bool
is_negative_up bound.Up value None = is_below_zero (number value)
is_negative_up bound.Ui value None = is_below_zero (number value)
is_negative_up _ value _ = false

-- whether the upper bound that counts is one below 0 by UP or UI
abbrev pub is_upper_negative : List ℕ → List Bound → Bool
is_upper_negative name [] = false
is_upper_negative name (b ∷ earlier) =
    if bytes_eq b.column name && sets_upper b.type then is_negative_up b.type b.value (infinite b.value) else is_upper_negative name earlier

-- whether a line sets the lower bound of the column
abbrev pub has_lower_line : List ℕ → List Bound → Bool
has_lower_line name bounds = list_any (λ b. bytes_eq b.column name && sets_lower b.type) bounds

-- what the lines of BOUNDS say of a column
abbrev pub bounds_on : List Bound → List ℕ → ColumnBounds
bounds_on bounds name = record {
  upper = upper_of name bounds;
  lower = lower_of name bounds;
  is_whole = is_whole_by name bounds;
  is_upper_negative = is_upper_negative name bounds;
  has_lower_line = has_lower_line name bounds;
}

-- The whole

-- the upper bound, or the one for columns that have none
abbrev pub or_upper : Option ℕ → Option ℤ → Option ℤ
or_upper upper bound = option_or bound (option_map (λ u. pos u) upper)

-- the lower bound, or the negative of the upper one for columns that have none
abbrev pub or_lower : Option ℕ → Option ℤ → Option ℤ
or_lower upper bound = option_or bound (option_map (λ u. neg_ℤ (pos u)) upper)

-- a column's span; at the end each column has both bounds
abbrev pub span : Option ℕ → ColumnBounds → Span
span upper b = record { lo = unwrap_or (or_lower upper b.lower) (pos 0); hi = unwrap_or (or_upper upper b.upper) (pos 0) }

-- the spans of columns with these bounds
abbrev pub spans_of : Option ℕ → (List ℕ → ColumnBounds) → DeclaredColumns → List Span
spans_of upper bounds columns = map (λ c. span upper (bounds c.0)) columns

-- the objective's terms, those of its row
abbrev pub objective_terms : Option (List ℕ) → List Entry → Terms
objective_terms None entries = []
objective_terms (Some name) entries = terms_of name entries

-- the problem of the lines: its names, rows, objective with its sense, and spans
abbrev pub problem_of : Option ℕ → Sections → Problem
problem_of upper s = record {
  names = map (λ c. c.0) (columns_of (entries_of s.columns));
  rows = flat_map (rows_at (entries_of s.columns) (sides_of s.rhs) (sides_of s.ranges)) (rows_of s.rows);
  objective = objective_terms (objective_name (rows_of s.rows)) (entries_of s.columns);
  sense = asked s.senses;
  spans = spans_of upper (bounds_on (bounds_of s.bounds)) (columns_of (entries_of s.columns));
}

-- Faults that are judged at the end, by column

-- the fault of a column at the end: it isn't whole, its upper bound alone is below 0, or it lacks a bound
abbrev pub column_end_fault : Option ℕ → Bool → ColumnBounds → Option Kind
column_end_fault upper is_marked b =
    when (not (is_marked || b.is_whole)) kind.Continuous
    <|> when (b.is_upper_negative && not b.has_lower_line) kind.NegativeUpper
    <|> when (not (is_some (or_lower upper b.lower)) || not (is_some (or_upper upper b.upper))) kind.NoBound

-- a fault with its line
abbrev pub at_line : ℕ → Option Kind → Option (ℕ × Kind)
at_line line None = None
at_line line (Some k) = Some (line, k)

-- the first fault of a column at the end, with the line where the column begins
abbrev pub columns_end_fault : Option ℕ → (List ℕ → ColumnBounds) → DeclaredColumns → Option (ℕ × Kind)
columns_end_fault upper bounds [] = None
columns_end_fault upper bounds (c ∷ columns) = option_or (at_line c.1.line (column_end_fault upper c.1.is_marked (bounds c.0))) (columns_end_fault upper bounds columns)

-- the first fault that needs the whole text: no objective, or that of a column
abbrev pub end_fault : Option ℕ → Sections → Option (ℕ × Kind)
end_fault upper s =
    option_or (at_line s.rows_at (when (not (is_some (objective_name (rows_of s.rows)))) kind.NoObjective))
    (columns_end_fault upper (bounds_on (bounds_of s.bounds)) (columns_of (entries_of s.columns)))

-- a value, where there is no fault
abbrev pub unless_fault : {A : Type 0} → Option (ℕ × Kind) → A → Result A (ℕ × Kind)
unless_fault (Some fault) a = Err fault
unless_fault None a = Ok a
