-- The lines that are left.
use Rattle.std.specs.Prelude.{ℕ, ◌+◌, List, ◌∷◌, map, length, Option, Some, None}
use Rattle.mps_lines.specs.Lines.{Line, numbered, raw_lines, lines_of as all_lines}
use Rattle.mps_lines.specs.declared.lines.Line.{Line as Held}
use Rattle.mps_lines.specs.declared.lines.Lines.{Lines}

-- a line as the definitions have it
abbrev pub seen : Held → Line
seen line = record { number = line.number; is_data = line.is_data; fields = map (λ f. f.now) line.fields.items }

-- the lines behind a line that is held back, with that line in front
abbrev pub with_first : Option Held → List Line → List Line
with_first None lines = lines
with_first (Some line) lines = seen line ∷ lines

-- the lines that are left, and are not passed over
abbrev pub left : Lines → List Line
left l = numbered l.number (raw_lines l.text.now)

-- how many bytes are left to read
abbrev pub text_len : Lines → ℕ
text_len l = length l.text.now

-- the number of the next line and the bytes that are left
abbrev pub room : Lines → ℕ
room l = l.number + length l.text.now

-- the lines of a text
abbrev pub lines_of : List ℕ → List Line
lines_of text = all_lines text
