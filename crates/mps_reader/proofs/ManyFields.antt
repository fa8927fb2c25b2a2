-- Lines of many fields: the first six tell as much as all, since no line needs more than five.
use Rattle.std.specs.Prelude.{◌≡◌, ℕ, ◌+◌, if◌then◌else◌, map, Result, Ok, Bool, true, false, not, ◌==◌, ◌||◌, ◌&&◌, nat_lt, cond, List, [], ◌∷◌, Option, Some, None, length, take}
use Rattle.std.proofs.Common.{refl, sym, ap, ◌∙◌, arith}
use Rattle.mps_lines.specs.Lines.{Line, raw_lines, is_passed_over, begins_blank, fields_of, line_of, numbered}
use Rattle.mps_reader.specs.Faults.{◌<|>◌, when, bound_line_fault, may_follow, stage, rest_fault, word_fault, data_fault_in, line_fault}
use Rattle.mps_reader.specs.Lemmas.LinesWithinLimits.{none_both}
use Rattle.mps_reader.specs.Reading.{sections_from, after_line, is_end, ends, sections_in}
use Rattle.mps_reader.specs.Sections.{Sections, none_yet, last_word, with_line, with_word, first_field, bound_with_value, bound_without_value, typed_bound, has_value, entries_of, bounds_of}
use Rattle.mps_reader.specs.Words.{section_of, bound_type_of}
use Rattle.mps_reader.specs.declared.kinds.BoundType.{BoundType}
use Rattle.mps_reader.specs.declared.kinds.Kind.{Kind}
use Rattle.mps_reader.specs.declared.kinds.Kind.TheVariants as kind
use Rattle.mps_reader.specs.declared.kinds.Section.{Section}
use Rattle.mps_reader.specs.declared.kinds.Section.TheVariants as section

-- a line with its first six fields alone
abbrev pub kept : Line → Line
kept line = record line { fields = take 6 line.fields }

-- the lines that aren't passed over, with all their fields
abbrev pub whole_numbered : ℕ → List (List ℕ) → List Line
whole_numbered n [] = []
whole_numbered n (line ∷ lines) =
    if is_passed_over line then whole_numbered (n + 1) lines
    else record { number = n; is_data = begins_blank line; fields = fields_of line } ∷ whole_numbered (n + 1) lines

abbrev pub whole_lines : List ℕ → List Line
whole_lines text = whole_numbered 1 (raw_lines text)

-- ---- lines that have too many
some_none : (k : Kind) → Some k ≡ None → ⊥
some_none k h = cc

module _ (s : Sections) (n : ℕ) (is_data : Bool) (a b c d e f : List ℕ) where
  -- a line of six fields or more
  abbrev long : List (List ℕ) → Line
  long rest = record { number = n; is_data = is_data; fields = a ∷ b ∷ c ∷ d ∷ e ∷ f ∷ rest }

  bad : (t : Bool) (found : Option Kind) → found ≡ Some kind.BadFields → (when t kind.BadFields <|> found) ≡ Some kind.BadFields
  bad true found h = refl
  bad false found h = h

  not_one : (rest : List (List ℕ)) → (length (a ∷ b ∷ rest) == 1) ≡ false
  not_one rest = grind arith

  not_none : (rest : List (List ℕ)) → nat_lt 0 (length (b ∷ rest)) ≡ true
  not_none rest = grind arith

  no_bound : (type : Option BoundType) (rest : List (List ℕ)) → typed_bound type (b ∷ c ∷ d ∷ e ∷ f ∷ rest) ≡ None
  no_bound None rest = refl
  no_bound (Some type) rest = by (has_value type)
    where
      by : (t : Bool) → cond t (bound_with_value type (b ∷ c ∷ d ∷ e ∷ f ∷ rest)) (bound_without_value type (b ∷ c ∷ d ∷ e ∷ f ∷ rest)) ≡ None
      by true = refl
      by false = refl

  -- the fault of a data line that has too many fields
  abbrev long_fault : Option Section → Kind
  long_fault (Some section.Rows) = kind.BadFields
  long_fault (Some section.Columns) = kind.BadFields
  long_fault (Some section.Rhs) = kind.BadFields
  long_fault (Some section.Ranges) = kind.BadFields
  long_fault (Some section.Bounds) = kind.BadFields
  long_fault _ = kind.BadSection

  too_many : (word : Option Section) (rest : List (List ℕ)) → data_fault_in word s (long rest) ≡ Some (long_fault word)
  too_many None rest = refl
  too_many (Some section.Name) rest = refl
  too_many (Some section.EndData) rest = refl
  too_many (Some section.ObjSense) rest = rw (not_one (c ∷ d ∷ e ∷ f ∷ rest)) refl
  too_many (Some section.Rows) rest = bad _ _ refl
  too_many (Some section.Columns) rest = bad _ _ refl
  too_many (Some section.Rhs) rest = bad _ _ refl
  too_many (Some section.Ranges) rest = bad _ _ refl
  too_many (Some section.Bounds) rest = bad _ _ (ap (bound_line_fault (entries_of s.columns) (bounds_of s.bounds)) (no_bound (bound_type_of a) rest))

  -- the fault of the line of a section's word that has too many fields
  abbrev rest_fault_of : Section → Option Kind
  rest_fault_of section.Name = None
  rest_fault_of _ = Some kind.BadSection

  same_rest : (word : Section) (rest : List (List ℕ)) → rest_fault word (b ∷ c ∷ d ∷ e ∷ f ∷ rest) ≡ rest_fault_of word
  same_rest section.Name rest = refl
  same_rest section.ObjSense rest = rw (not_none (c ∷ d ∷ e ∷ f ∷ rest)) refl
  same_rest section.Rows rest = rw (not_none (c ∷ d ∷ e ∷ f ∷ rest)) refl
  same_rest section.Columns rest = rw (not_none (c ∷ d ∷ e ∷ f ∷ rest)) refl
  same_rest section.Rhs rest = rw (not_none (c ∷ d ∷ e ∷ f ∷ rest)) refl
  same_rest section.Ranges rest = rw (not_none (c ∷ d ∷ e ∷ f ∷ rest)) refl
  same_rest section.Bounds rest = rw (not_none (c ∷ d ∷ e ∷ f ∷ rest)) refl
  same_rest section.EndData rest = rw (not_none (c ∷ d ∷ e ∷ f ∷ rest)) refl

  same_word : (word : Option Section) (rest : List (List ℕ)) → word_fault s (b ∷ c ∷ d ∷ e ∷ f ∷ []) word ≡ word_fault s (b ∷ c ∷ d ∷ e ∷ f ∷ rest) word
  same_word None rest = refl
  same_word (Some word) rest = ap (λ found. when (not (may_follow s.words word) || ((stage s.words == 2) && (length s.senses == 0))) kind.BadSection <|> found) (same_rest word [] ∙ sym (same_rest word rest))

  same_with_word : (word : Option Section) (rest : List (List ℕ)) → word_fault s (b ∷ c ∷ d ∷ e ∷ f ∷ rest) word ≡ None → with_word word s (long []) ≡ with_word word s (long rest)
  same_with_word None rest h = refl
  same_with_word (Some section.ObjSense) rest h =
      let k : rest_fault section.ObjSense (b ∷ c ∷ d ∷ e ∷ f ∷ rest) ≡ None = (none_both (when _ kind.BadSection) _ h).1 in
      absurd (some_none _ (sym (same_rest section.ObjSense rest) ∙ k))
  same_with_word (Some section.Name) rest h = refl
  same_with_word (Some section.Rows) rest h = refl
  same_with_word (Some section.Columns) rest h = refl
  same_with_word (Some section.Rhs) rest h = refl
  same_with_word (Some section.Ranges) rest h = refl
  same_with_word (Some section.Bounds) rest h = refl
  same_with_word (Some section.EndData) rest h = refl

-- ---- any line
-- the line is judged the same, and leaves the same sections where it has no fault
record IsSame (s : Sections) (six all : Line) : Type 0 where
  judged : line_fault s six ≡ line_fault s all
  left : line_fault s all ≡ None → with_line s six ≡ with_line s all
  first : first_field six.fields ≡ first_field all.fields

long_same : (s : Sections) (n : ℕ) (is_data : Bool) (a b c d e f : List ℕ) (rest : List (List ℕ)) → IsSame s (long s n is_data a b c d e f []) (long s n is_data a b c d e f rest)
long_same s n true a b c d e f rest = record {
  judged = too_many s n true a b c d e f (last_word s.words) [] ∙ sym (too_many s n true a b c d e f (last_word s.words) rest);
  left = λ h. absurd (some_none _ (sym (too_many s n true a b c d e f (last_word s.words) rest) ∙ h));
  first = refl;
}
long_same s n false a b c d e f rest = record {
  judged = same_word s n false a b c d e f (section_of a) rest;
  left = same_with_word s n false a b c d e f (section_of a) rest;
  first = refl;
}

by_fields : (s : Sections) (n : ℕ) (is_data : Bool) (fields : List (List ℕ)) → IsSame s (record { number = n; is_data = is_data; fields = take 6 fields }) (record { number = n; is_data = is_data; fields = fields })
by_fields s n is_data [] = record { judged = refl; left = λ h. refl; first = refl }
by_fields s n is_data (a ∷ []) = record { judged = refl; left = λ h. refl; first = refl }
by_fields s n is_data (a ∷ b ∷ []) = record { judged = refl; left = λ h. refl; first = refl }
by_fields s n is_data (a ∷ b ∷ c ∷ []) = record { judged = refl; left = λ h. refl; first = refl }
by_fields s n is_data (a ∷ b ∷ c ∷ d ∷ []) = record { judged = refl; left = λ h. refl; first = refl }
by_fields s n is_data (a ∷ b ∷ c ∷ d ∷ e ∷ []) = record { judged = refl; left = λ h. refl; first = refl }
by_fields s n is_data (a ∷ b ∷ c ∷ d ∷ e ∷ f ∷ rest) = long_same s n is_data a b c d e f rest

same_line : (s : Sections) (line : Line) → IsSame s (kept line) line
same_line s line = by_fields s line.number line.is_data line.fields

-- each line is judged by its first six fields as by all
pub same_fault : (s : Sections) (line : Line) → line_fault s (kept line) ≡ line_fault s line
same_fault s line = (same_line s line).judged

-- ---- all lines
-- one line more, before lines that leave the same
module _ (last : ℕ) (s : Sections) (line : Line) (lines : List Line) (same : IsSame s (kept line) line) where
  abbrev rest : Result Sections (ℕ × Kind)
  rest = sections_from last (with_line s (kept line)) (map kept lines)

  after_same : sections_from last (with_line s line) (map kept lines) ≡ sections_from last (with_line s line) lines
      → (found : Option Kind) → line_fault s line ≡ found → after_line found (kept line) rest s ≡ after_line found line (sections_from last (with_line s line) lines) s
  after_same t (Some k) h = refl
  after_same t None h =
      ap (λ first. cond (not line.is_data && is_end (section_of first)) (Ok s) rest) same.first
      ∙ ap (λ r. cond (ends line) (Ok s) r) (ap (λ t. sections_from last t (map kept lines)) (same.left h) ∙ t)

pub same_sections : (last : ℕ) (s : Sections) (lines : List Line) → sections_from last s (map kept lines) ≡ sections_from last s lines
same_sections last s [] = refl
same_sections last s (line ∷ lines) =
    let same = same_line s line in
    ap (λ found. after_line found (kept line) (rest last s line lines same) s) same.judged
    ∙ after_same last s line lines same (same_sections last (with_line s line) lines) (line_fault s line) refl

kept_more : (n : ℕ) (line : List ℕ) (six all : List Line) → six ≡ map kept all → (t : Bool)
    → cond t six (line_of n line ∷ six) ≡ map kept (cond t all (record { number = n; is_data = begins_blank line; fields = fields_of line } ∷ all))
kept_more n line six all h true = h
kept_more n line six all h false = ap (λ lines. line_of n line ∷ lines) h

kept_numbered : (n : ℕ) (lines : List (List ℕ)) → numbered n lines ≡ map kept (whole_numbered n lines)
kept_numbered n [] = refl
kept_numbered n (line ∷ lines) = kept_more n line (numbered (n + 1) lines) (whole_numbered (n + 1) lines) (kept_numbered (n + 1) lines) (is_passed_over line)

-- a text has the same sections, or the same first fault, as with all fields of its lines
pub same_found : (text : List ℕ) → sections_in text ≡ sections_from (length (raw_lines text)) none_yet (whole_lines text)
same_found text = ap (sections_from (length (raw_lines text)) none_yet) (kept_numbered 1 (raw_lines text)) ∙ same_sections (length (raw_lines text)) none_yet (whole_lines text)
