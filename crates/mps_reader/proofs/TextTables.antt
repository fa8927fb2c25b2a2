-- Lemmas: the lines so far, and those that are left, up to ENDATA or the first fault.
use Rattle.std.specs.Prelude.{◌≡◌, ℕ, Bool, true, false, not, ◌&&◌, cond, List, ◌∷◌, Option, Some, None, Ok, Err, length, []}
use Rattle.std.proofs.Common.{refl, sym, ap, ◌∙◌, subst}
use Rattle.mps_lines.specs.Lines.{Line, raw_lines}
use Rattle.mps_lines.specs.Left.{left}
use Rattle.mps_lines.specs.declared.lines.Lines.{Lines}
use Rattle.mps_reader.specs.Faults.{line_fault}
use Rattle.mps_reader.specs.Reading.{sections_from, after_line, ends, is_end, sections_in}
use Rattle.mps_reader.specs.SectionTables.{HoldsSections}
use Rattle.mps_reader.proofs.SectionTables.{line_of_word}
use Rattle.mps_reader.specs.Sections.{Sections, with_line, with_word, first_field}
use Rattle.mps_reader.specs.Tables.{Stops}
use Rattle.mps_reader.specs.Words.{section_of}
use Rattle.mps_reader.specs.declared.kinds.Kind.{Kind}
use Rattle.mps_reader.specs.declared.kinds.Kind.TheVariants as kind
use Rattle.mps_reader.specs.declared.kinds.Section.{Section}
use Rattle.mps_reader.specs.declared.kinds.Section.TheVariants as section
use Rattle.mps_reader.specs.declared.kinds.Stop.{Stop}
use Rattle.mps_reader.specs.declared.kinds.Stop.TheVariants as stop
use Rattle.mps_reader.specs.declared.tables.Tables.{Tables}
use Rattle.mps_reader.specs.TextTables.{IsFaultOf, fault_at, HasData, HasSectionsOf}

-- the tables are those of the lines so far, and the lines that are left decide
pub record HasFollowed {B H : Type 0} (text : List ℕ) (st : Tables B H) (lines : Lines) : Type 0 where
  pub s : Sections
  pub tables : HoldsSections st s
  pub found : sections_in text ≡ sections_from (length (raw_lines text)) s (left lines)

-- ---- one line
module _ (last : ℕ) (s : Sections) (line : Line) (lines : List Line) where
  stops_here : line_fault s line ≡ None → ends line ≡ true → sections_from last s (line ∷ lines) ≡ Ok s
  stops_here f e =
      ap (λ o. after_line o line (sections_from last (with_line s line) lines) s) f
      ∙ ap (λ (b : Bool). cond b (Ok s) (sections_from last (with_line s line) lines)) e

  at_fault : (k : Kind) → line_fault s line ≡ Some k → sections_from last s (line ∷ lines) ≡ Err (line.number, k)
  at_fault k f = ap (λ o. after_line o line (sections_from last (with_line s line) lines) s) f

-- what ENDATA leaves
end_word : (word : Option Section) → is_end word ≡ true → word ≡ Some section.EndData
end_word None h = cc
end_word (Some section.EndData) h = refl
end_word (Some section.Name) h = cc
end_word (Some section.ObjSense) h = cc
end_word (Some section.Rows) h = cc
end_word (Some section.Columns) h = cc
end_word (Some section.Rhs) h = cc
end_word (Some section.Ranges) h = cc
end_word (Some section.Bounds) h = cc

end_parts : (line : Line) → ends line ≡ true → (line.is_data ≡ false) × (section_of (first_field line.fields) ≡ Some section.EndData)
end_parts line h = by line.is_data refl h
  where
    by : (b : Bool) → line.is_data ≡ b → (not b && is_end (section_of (first_field line.fields))) ≡ true → (line.is_data ≡ false) × (section_of (first_field line.fields) ≡ Some section.EndData)
    by true e h = cc
    by false e h = (e, end_word (section_of (first_field line.fields)) h)

at_end : {B H : Type 0} (st : Tables B H) (s : Sections) (line : Line) → ends line ≡ true → HoldsSections st (with_line s line) → HasData st s
at_end st s line e h =
    let p = end_parts line e in
    let k : HoldsSections st (with_word (Some section.EndData) s line) = subst (λ (t : Sections). HoldsSections st t) (line_of_word s line p.0 ∙ ap (λ w. with_word w s line) p.1) h in
    record { sense = k.order.asked_for; rows_at = k.rows_at; rows = k.rows; entries = k.entries; rhs = k.rhs; ranges = k.ranges; bounds = k.bounds }

module _ {B H : Type 0} (text : List ℕ) (st new : Tables B H) (lines rest : Lines) (line : Line) (h : HasFollowed text st lines) (e : left lines ≡ line ∷ left rest) where
  next : sections_in text ≡ sections_from (length (raw_lines text)) h.s (line ∷ left rest)
  next = h.found ∙ ap (sections_from (length (raw_lines text)) h.s) e

  pub follow_last : (line_fault h.s line ≡ None) × (true ≡ ends line) × HoldsSections new (with_line h.s line) → HasSectionsOf text new
  follow_last m = record { s = h.s; tables = at_end new h.s line (sym m.1) m.2; found = next ∙ stops_here (length (raw_lines text)) h.s line (left rest) m.0 (sym m.1) }

  pub follow_fault : (t : Stop) → Stops t (line_fault h.s line) → IsFaultOf (fault_at line.number t) (sections_in text)
  follow_fault (stop.Fault k) f = next ∙ at_fault (length (raw_lines text)) h.s line (left rest) k f
  follow_fault stop.Memory f = tt

pub follow_end : {B H : Type 0} (text : List ℕ) (st : Tables B H) (lines : Lines) → HasFollowed text st lines → left lines ≡ [] → sections_in text ≡ Err (length (raw_lines text), kind.NoEnd)
follow_end text st lines h e = h.found ∙ ap (sections_from (length (raw_lines text)) h.s) e
