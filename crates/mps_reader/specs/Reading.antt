-- When a text reads as a problem, and when it is refused.
use Rattle.std.specs.Prelude.{◌≡◌, ℕ, Bool, true, false, ◌&&◌, not, nat_lt, if◌then◌else◌, List, ◌∷◌, Option, Some, None, Result, Ok, Err, length, []}
use Rattle.mps_lines.specs.Lines.{Line, lines_of, raw_lines}
use Rattle.mps_reader.specs.Words.{section_of}
use Rattle.mps_reader.specs.Sections.{Sections, none_yet, with_line, first_field}
use Rattle.mps_reader.specs.Faults.{line_fault}
use Rattle.problem.specs.Problem.{Problem}
use Rattle.mps_reader.specs.Meaning.{problem_of, end_fault, unless_fault}
use Rattle.mps_reader.specs.declared.kinds.Kind.{Kind}
use Rattle.mps_reader.specs.declared.kinds.Kind.TheVariants as kind
use Rattle.mps_reader.specs.declared.kinds.Section.{Section}
use Rattle.mps_reader.specs.declared.kinds.Section.TheVariants as section

-- the section is ENDATA
abbrev pub is_end : Option Section → Bool
is_end (Some section.EndData) = true
is_end _ = false

-- the line is the last one that is read
abbrev pub ends : Line → Bool
ends line = not line.is_data && is_end (section_of (first_field line.fields))

-- the sections of the lines up to ENDATA, or the first line at fault
abbrev pub after_line : Option Kind → Line → Result Sections (ℕ × Kind) → Sections → Result Sections (ℕ × Kind)
after_line (Some k) line rest s = Err (line.number, k)
after_line None line rest s = if ends line then Ok s else rest

-- the lines by their sections up to ENDATA, or the first fault with its line; `last` is the line at which the text ends
abbrev pub sections_from : ℕ → Sections → List Line → Result Sections (ℕ × Kind)
sections_from last s [] = Err (last, kind.NoEnd)
sections_from last s (line ∷ lines) = after_line (line_fault s line) line (sections_from last (with_line s line) lines) s

-- the sections of a text up to ENDATA, or its first fault
abbrev pub sections_in : List ℕ → Result Sections (ℕ × Kind)
sections_in text = sections_from (length (raw_lines text)) none_yet (lines_of text)

-- the problem of the sections at ENDATA, or the fault at the end
abbrev pub finish : Option ℕ → Result Sections (ℕ × Kind) → Result Problem (ℕ × Kind)
finish upper (Ok s) = unless_fault (end_fault upper s) (problem_of upper s)
finish upper (Err fault) = Err fault

-- the most bytes that a text may have
abbrev pub text_limit : ℕ
text_limit = 33554432

-- the problem that a text reads as, or its first fault
unfoldable pub reading : List ℕ → Option ℕ → Result Problem (ℕ × Kind)
reading text upper =
    if nat_lt text_limit (length text) then Err (0, kind.TooMany)
    else finish upper (sections_in text)

-- the text reads as this problem
abbrev pub Reads : List ℕ → Option ℕ → Problem → Type 0
Reads text upper p = reading text upper ≡ Ok p

-- the first fault of the text, with its line
abbrev pub IsRefused : List ℕ → Option ℕ → ℕ → Kind → Type 0
IsRefused text upper line k = reading text upper ≡ Err (line, k)
