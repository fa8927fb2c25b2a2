-- Lemmas: the order of the sections, by the last word and what has come.
use Rattle.std.specs.Prelude.{◌≡◌, Bool, true, false, ◌==◌, ◌&&◌, not, List, ◌∷◌, Some, drop, []}
use Rattle.std.specs.List.{list_any}
use Rattle.std.proofs.Common.{refl, ap, ◌∙◌}
use Rattle.mps_lines.specs.Lines.{Line}
use Rattle.mps_reader.specs.Faults.{stage, same_section, may_follow}
use Rattle.mps_reader.specs.Sections.{Sections, with_word}
use Rattle.mps_reader.specs.declared.kinds.Section.{Section}
use Rattle.mps_reader.specs.declared.kinds.Section.TheVariants as section
use Rattle.mps_reader.specs.declared.order.Order.{Order}
use Rattle.mps_reader.specs.SectionOrder.{HasOrder, order_after}

-- ---- what follows
no_end_yet : (words : List Section) → list_any (same_section section.EndData) words ≡ false
no_end_yet [] = refl
no_end_yet (word ∷ words) = no_end_yet words

-- the end comes once
pub end_follows : (words : List Section) → may_follow words section.EndData ≡ (stage words == 4)
end_follows words = ap (λ b. (stage words == 4) && not b) (no_end_yet words) ∙ and_not_false (stage words == 4)
  where
    and_not_false : (a : Bool) → (a && not false) ≡ a
    and_not_false true = refl
    and_not_false false = refl

module _ (o : Order) (s : Sections) (h : HasOrder o s) where
  pub order_held : (line : Line) (word : Section) → HasOrder (order_after word (drop 1 line.fields) o) (with_word (Some word) s line)
  order_held line section.Name = record { last = refl; rhs = h.rhs; ranges = h.ranges; bounds = h.bounds; sense = h.sense; asked_for = h.asked_for }
  order_held line section.ObjSense = record { last = refl; rhs = h.rhs; ranges = h.ranges; bounds = h.bounds; sense = refl; asked_for = refl }
  order_held line section.Rows = record { last = refl; rhs = h.rhs; ranges = h.ranges; bounds = h.bounds; sense = h.sense; asked_for = h.asked_for }
  order_held line section.Columns = record { last = refl; rhs = h.rhs; ranges = h.ranges; bounds = h.bounds; sense = h.sense; asked_for = h.asked_for }
  order_held line section.Rhs = record { last = refl; rhs = refl; ranges = h.ranges; bounds = h.bounds; sense = h.sense; asked_for = h.asked_for }
  order_held line section.Ranges = record { last = refl; rhs = h.rhs; ranges = refl; bounds = h.bounds; sense = h.sense; asked_for = h.asked_for }
  order_held line section.Bounds = record { last = refl; rhs = h.rhs; ranges = h.ranges; bounds = refl; sense = h.sense; asked_for = h.asked_for }
  order_held line section.EndData = record { last = refl; rhs = h.rhs; ranges = h.ranges; bounds = h.bounds; sense = h.sense; asked_for = h.asked_for }
