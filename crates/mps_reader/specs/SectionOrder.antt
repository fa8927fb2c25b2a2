-- The order of the sections, by the last word and what has come.
use Rattle.std.specs.Prelude.{◌≡◌, ℕ, Bool, ◌==◌, ◌||◌, not, List, Some, length}
use Rattle.std.specs.List.{list_any}
use Rattle.mps_reader.specs.Faults.{same_section}
use Rattle.mps_reader.specs.Sections.{Sections, asked, last_word}
use Rattle.problem.specs.declared.objective_sense.ObjectiveSense.{ObjectiveSense}
use Rattle.mps_reader.specs.declared.kinds.Section.{Section}
use Rattle.mps_reader.specs.declared.kinds.Section.TheVariants as section
use Rattle.mps_reader.specs.declared.order.Order.{Order}

-- the order is that of the sections
pub record HasOrder (o : Order) (s : Sections) : Type 0 where
  pub last : o.last ≡ last_word s.words
  pub rhs : o.has_rhs ≡ list_any (same_section section.Rhs) s.words
  pub ranges : o.has_ranges ≡ list_any (same_section section.Ranges) s.words
  pub bounds : o.has_bounds ≡ list_any (same_section section.Bounds) s.words
  pub sense : o.has_sense ≡ not (length s.senses == 0)
  pub asked_for : o.sense ≡ asked s.senses

-- whether OBJSENSE has its word after a section line with these fields behind the section word
abbrev pub sense_after : Section → List (List ℕ) → Bool → Bool
sense_after section.ObjSense rest before = not (length rest == 0)
sense_after word rest before = before

-- the sense that is asked for after such a line
abbrev pub asked_after : Section → List (List ℕ) → ObjectiveSense → ObjectiveSense
asked_after section.ObjSense rest before = asked rest
asked_after word rest before = before

-- the order after one more section line
abbrev pub order_after : Section → List (List ℕ) → Order → Order
order_after word rest o = record {
  last = Some word;
  has_rhs = same_section section.Rhs word || o.has_rhs;
  has_ranges = same_section section.Ranges word || o.has_ranges;
  has_bounds = same_section section.Bounds word || o.has_bounds;
  has_sense = sense_after word rest o.has_sense;
  sense = asked_after word rest o.sense;
}
