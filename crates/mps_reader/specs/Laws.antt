-- A text reads as one problem or has one first fault.
use Rattle.std.specs.Prelude.{◌≡◌, ℕ, List, ◌∷◌, ◌++◌, Option, Some, None, Err, ◌⊎◌, false, []}
use Rattle.mps_lines.specs.Lines.{Line}
use Rattle.mps_reader.specs.Sections.{Sections, with_line}
use Rattle.mps_reader.specs.Faults.{line_fault}
use Rattle.problem.specs.Problem.{Problem}
use Rattle.mps_reader.specs.Reading.{Reads, IsRefused, sections_from, ends}
use Rattle.mps_reader.specs.declared.kinds.Kind.{Kind}
use Rattle.mps_reader.specs.declared.kinds.Kind.TheVariants as kind

-- the sections of a list of lines
abbrev pub sections_of : Sections → List Line → Sections
sections_of s [] = s
sections_of s (line ∷ lines) = sections_of (with_line s line) lines

-- no line has a fault and none is the end
abbrev pub AreFine : Sections → List Line → Type 0
AreFine s [] = Unit {0}
AreFine s (line ∷ lines) = (line_fault s line ≡ None) × (ends line ≡ false) × AreFine (with_line s line) lines

-- a line at fault, after lines that have none
pub record IsFirstFault (s : Sections) (lines : List Line) (number : ℕ) (k : Kind) : Type 0 where
  pub before : List Line
  pub line : Line
  pub after : List Line
  pub is : lines ≡ before ++ line ∷ after
  pub fine : AreFine s before
  pub fault : line_fault (sections_of s before) line ≡ Some k
  pub at : line.number ≡ number

-- ---- the laws
-- each text reads as a problem or is refused
abbrev pub TextsReadOrAreRefused : Type 0
TextsReadOrAreRefused = (text : List ℕ) (upper : Option ℕ) → ((p : Problem) × Reads text upper p) ⊎ ((line : ℕ) × (k : Kind) × IsRefused text upper line k)

-- no text does both
abbrev pub NoTextReadsAndIsRefused : Type 0
NoTextReadsAndIsRefused = (text : List ℕ) (upper : Option ℕ) (p : Problem) (line : ℕ) (k : Kind) → Reads text upper p → IsRefused text upper line k → ⊥

-- a text reads as one problem at most
abbrev pub ProblemsAreUnique : Type 0
ProblemsAreUnique = (text : List ℕ) (upper : Option ℕ) (p q : Problem) → Reads text upper p → Reads text upper q → p ≡ q

-- a text has one fault at most, with its line
abbrev pub FaultsAreUnique : Type 0
FaultsAreUnique = (text : List ℕ) (upper : Option ℕ) (l m : ℕ) (k j : Kind) → IsRefused text upper l k → IsRefused text upper m j → (l ≡ m) × (k ≡ j)

-- where the lines before are fine and a line has a fault, that fault is found
abbrev pub FirstFaultsAreFound : Type 0
FirstFaultsAreFound = (last : ℕ) (s : Sections) (before : List Line) (line : Line) (after : List Line) (k : Kind) → AreFine s before → line_fault (sections_of s before) line ≡ Some k
    → sections_from last s (before ++ line ∷ after) ≡ Err (line.number, k)

-- a fault that is found is that of the first line that has one, or the text has no end
abbrev pub FoundFaultsAreFirst : Type 0
FoundFaultsAreFirst = (last : ℕ) (s : Sections) (lines : List Line) (n : ℕ) (k : Kind) → sections_from last s lines ≡ Err (n, k)
    → IsFirstFault s lines n k ⊎ ((n ≡ last) × (k ≡ kind.NoEnd) × AreFine s lines)
