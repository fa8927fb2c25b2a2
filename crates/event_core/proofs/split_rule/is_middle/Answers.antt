use Rattle.std.proofs.Common.{◌≡◌, ◌∙◌, ap, to_z, of_z, w64}
use Rattle.std.specs.Prelude.{ℤ, ◌+ℤ◌}
use Rattle.std.specs.Ordering.{int_eq}
use Rattle.std.proofs.lemmas.Int.{to_z-of_z}
use Rattle.fraction.specs.Rational.{floor_div}
use Rattle.event_core.specs.Lemmas.Boxes.{middle_then, middle_else, middle_none}
use Rattle.event_core.proofs.split_rule.is_middle.Goals as goal

pub returns-then-first-column : goal.returns-then-first-column
returns-then-first-column c =
    let bound : to_z w64 (of_z w64 c.args.bound) ≡ c.args.bound = to_z-of_z w64 c.args.bound c.ranges.bound in
    let same = c.is_half.ensures ∙ ap (λ (z : ℤ). int_eq z (floor_div (c.span.result.lo +ℤ c.span.result.hi) 2)) bound in
    middle_then c.args.area.now c.in-Some.first c.args.column c.span.result c.args.bound _ c.in-Some.ensures.found c.if-first-column.true c.span.ensures same

pub returns-else-first-column : goal.returns-else-first-column
returns-else-first-column c = middle_else c.args.area.now c.in-Some.first c.args.column _ c.in-Some.ensures.found c.if-first-column.false

pub returns-in-None : goal.returns-in-None
returns-in-None c = middle_none c.args.area.now c.args.column _ c.in-None.ensures.none
