use Rattle.std.proofs.Common.{◌≡◌, ◌<◌, ◌==◌, ℕ, List, ◌∷◌, ◌++◌, [], Option, Some, None, arith, refl, ap, ◌∙◌, get_or, length, set, if◌then◌else◌}
use Rattle.fraction.specs.Rational.{ℚ}
use Rattle.mps_reader.proofs.SideTable.{gives_number, gives_zero}
use Rattle.mps_reader.specs.SideTable.{numbers_from}
use Rattle.mps_reader.specs.declared.side_table.RowNumber.{RowNumber}
use Rattle.mps_reader.specs.declared.side_table.SideEntry.TheVariants as side
use Rattle.mps_reader.proofs.side_table.SideTable.put.Goals as goal

pub returns-then-same : goal.returns-then-same
returns-then-same c j =
    let i = c.args.index in
    let q = c.args.number in
    let numbers = c.self.inside.numbers.items in
    let old = c.self.inside.sides.items in
    let sides = c.pad.new.sides.items in
    let l : i < length sides = omega (arith, c.in_ok-pad.ensures.within, c.in-Ok-Ok.ensures.1) in
    gives_zero numbers old sides i c.in_ok-pad.ensures.same l q (c.if-same.ensures.0 refl ∙ c.of.ensures) j
    ∙ ap (λ (os : List (Option ℚ)). if j == i then Some q else get_or os j None) c.self.view_is

pub returns : goal.returns
returns c j =
    let i = c.args.index in
    let q = c.args.number in
    let numbers = c.self.inside.numbers.items in
    let old = c.self.inside.sides.items in
    let sides = c.pad.new.sides.items in
    let l : i < length sides = omega (arith, c.in_ok-pad.ensures.within, c.in-Ok-Ok.ensures.1) in
    let n : c.in-Ok-Ok.spot ≡ length numbers = omega (arith, c.in-Ok-Ok.ensures'.1, c.len.ensures, c.self.inside.numbers.ok.0) in
    let r : RowNumber = record { row = c.in-Ok-Ok.row; number = q } in
    ap (λ (ns : List RowNumber). get_or (numbers_from ns 0 (set sides i (side.At c.in-Ok-Ok.spot))) j None) c.in_ok-push.ensures.items
    ∙ ap (λ (n : ℕ). get_or (numbers_from (numbers ++ r ∷ []) 0 (set sides i (side.At n))) j None) n
    ∙ gives_number numbers old sides i c.in_ok-pad.ensures.same l r c.in-Ok-Ok.ensures.1 j
    ∙ ap (λ (os : List (Option ℚ)). if j == i then Some q else get_or os j None) c.self.view_is
