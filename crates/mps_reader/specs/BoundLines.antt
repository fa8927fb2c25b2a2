-- What the lines of BOUNDS say of each column.
use Rattle.std.specs.Prelude.{ℕ, ℤ, pos, Bool, true, false, if◌then◌else◌, List, ◌∷◌, Option, Some, None, []}
use Rattle.std.specs.Str.{bytes_eq}
use Rattle.fraction.specs.Rational.{ℚ, floor, ceil}
use Rattle.mps_lines.specs.Infinities.{infinite}
use Rattle.mps_reader.specs.Meaning.{unless_infinite, is_below_zero}
use Rattle.mps_reader.specs.Sections.{Bound, number}
use Rattle.mps_reader.specs.declared.kinds.BoundType.{BoundType}
use Rattle.mps_reader.specs.declared.kinds.BoundType.TheVariants as bound
use Rattle.mps_reader.specs.declared.limits.ColumnBounds.{ColumnBounds}

-- a column before its first line
abbrev pub no_limits : ColumnBounds
no_limits = record { upper = None; lower = Some (pos 0); is_whole = false; is_upper_negative = false; has_lower_line = false }

-- a line of a type whose value rounds to these numbers, and is negative or not
abbrev pub with_setting : BoundType → Option ℤ → Option ℤ → Bool → ColumnBounds → ColumnBounds
with_setting bound.Up upper lower negative l = record l { upper = upper; is_upper_negative = negative }
with_setting bound.Lo upper lower negative l = record l { lower = lower; has_lower_line = true }
with_setting bound.Fx upper lower negative l = record { upper = upper; lower = lower; is_whole = l.is_whole; is_upper_negative = false; has_lower_line = true }
with_setting bound.Li upper lower negative l = record l { lower = lower; has_lower_line = true; is_whole = true }
with_setting bound.Ui upper lower negative l = record l { upper = upper; is_upper_negative = negative; is_whole = true }
with_setting bound.Fr upper lower negative l = record { upper = None; lower = None; is_whole = l.is_whole; is_upper_negative = false; has_lower_line = true }
with_setting bound.Mi upper lower negative l = record l { lower = None; has_lower_line = true }
with_setting bound.Pl upper lower negative l = record l { upper = None; is_upper_negative = false }
with_setting bound.Bv upper lower negative l = record { upper = Some (pos 1); lower = Some (pos 0); is_whole = true; is_upper_negative = false; has_lower_line = true }

-- whether a value that is no infinity is below 0
abbrev pub is_negative : Option Bool → ℚ → Bool
is_negative None q = is_below_zero q
is_negative (Some infinity) q = false

-- the limits after a line
abbrev pub with_limits : BoundType → List ℕ → ColumnBounds → ColumnBounds
with_limits type value l =
    with_setting type (unless_infinite (infinite value) (floor (number value))) (unless_infinite (infinite value) (ceil (number value))) (is_negative (infinite value) (number value)) l

-- what the lines say of a column
abbrev pub summary_of : List ℕ → List Bound → ColumnBounds
summary_of name [] = no_limits
summary_of name (b ∷ earlier) = if bytes_eq b.column name then with_limits b.type b.value (summary_of name earlier) else summary_of name earlier
