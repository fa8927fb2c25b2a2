use Rattle.std.proofs.Common.{◌≡◌, List, Option, None, arith, sym, ap, ◌∙◌, get_or}
use Rattle.fraction.specs.Rational.{ℚ}
use Rattle.mps_reader.specs.SideTable.{number_of}
use Rattle.mps_reader.proofs.SideTable.{numbers_get}
use Rattle.mps_reader.specs.declared.side_table.SideEntry.{SideEntry}
use Rattle.mps_reader.specs.declared.side_table.SideEntry.TheVariants as side
use Rattle.mps_reader.proofs.side_table.SideTable.number_at.Goals as goal

pub returns-in-Some : goal.returns-in-Some
returns-in-Some c =
    let i = c.args.index in
    let s : c.in-Some.side.now ≡ get_or c.self.inside.sides.items i side.Missing = c.in-Some.ensures.lookup.3.1 side.Missing ∙ ap (λ (ss : List SideEntry). get_or ss i side.Missing) c.deref.ensures.value in
    c.number_of.ensures ∙ (λ j. number_of (c.deref-in-Some.ensures.value j) i (s j)) ∙ sym (numbers_get c.self.inside.numbers.items c.self.inside.sides.items i)
    ∙ ap (λ (os : List (Option ℚ)). get_or os i None) c.self.view_is

pub returns-in-None : goal.returns-in-None
returns-in-None c =
    let i = c.args.index in
    let s : side.Missing ≡ get_or c.self.inside.sides.items i side.Missing = c.in-None.ensures.lookup.4 (omega arith) side.Missing ∙ ap (λ (ss : List SideEntry). get_or ss i side.Missing) c.deref.ensures.value in
    ap (number_of c.self.inside.numbers.items i) s ∙ sym (numbers_get c.self.inside.numbers.items c.self.inside.sides.items i)
    ∙ ap (λ (os : List (Option ℚ)). get_or os i None) c.self.view_is
