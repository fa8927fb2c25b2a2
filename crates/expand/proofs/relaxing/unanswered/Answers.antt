use Rattle.std.proofs.Common.{◌≡◌, arith, to_z, of_z, w64, refl}
use Rattle.std.specs.Prelude.{◌+ℤ◌}
use Rattle.std.proofs.lemmas.Int.{ints}
use Rattle.std.proofs.lemmas.Option.{slice_get_within}
use Rattle.fraction.specs.Rational.{floor_div}
use Rattle.expand.proofs.Middles.{span_free, span_modest, middle_is}
use Rattle.expand.proofs.relaxing.unanswered.Goals as goal

pub span-requires : goal.span-requires
span-requires c = let free = c.first_free-column.ensures in slice_get_within c.args.area.now c.first_free-column.result free.span free.there

pub middle-bound-requires-clause-modest : goal.middle-bound-requires-clause-modest
middle-bound-requires-clause-modest c = span_modest c.args.area.now c.first_free-column.result c.first_free-column.ensures c.span.result c.span.ensures c.requires.modest

pub middle-bound-requires-clause-free : goal.middle-bound-requires-clause-free
middle-bound-requires-clause-free c = span_free c.args.area.now c.first_free-column.result c.first_free-column.ensures c.span.result c.span.ensures

pub overflow_cast-result : goal.overflow_cast-result
overflow_cast-result c =
    let free = c.first_free-column.ensures in
    let there = slice_get_within c.args.area.now c.first_free-column.result free.span free.there in
    omega (arith, there, c.requires.few)

pub returns : goal.returns
returns c =
    let box = c.args.area.now in
    let j = c.first_free-column.result in
    let free = c.first_free-column.ensures in
    let z = to_z w64 (of_z w64 c.middle-bound.result) in
    let e : z ≡ floor_div (c.span.result.lo +ℤ c.span.result.hi) 2 = omega (arith, ints, c.middle-bound.ensures) in
    record { column = j; bound = z; middle = record { free = free; bound = middle_is box j free c.span.result c.span.ensures z e }; found = refl }
