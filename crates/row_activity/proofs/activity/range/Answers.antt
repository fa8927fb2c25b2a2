use Rattle.std.proofs.Common.{◌∙◌, ap, arith, rules}
use Rattle.std.specs.Int.{w128}
use Rattle.std.proofs.lemmas.Int.{to_z-of_z}
use Rattle.fraction.specs.Rational.{whole}
use Rattle.row_activity.specs.declared.activity.Extreme.TheVariants.{Least, Greatest}
use Rattle.row_activity.proofs.Steps.{room, rest_of_slice, next_behind, all_behind, one_more_behind}
use Rattle.row_activity.proofs.IntegerSteps.{begun}
use Rattle.row_activity.proofs.activity.range.Goals as goal

pub loop-term-init : goal.loop-term-init
loop-term-init c = record {
  low = begun Least c.args.area.now c.args.terms.now c.as_slice-items.result.now c.integer_range-low_sum.result.2 _ _ c.as_slice-items.ensures c.integer_range-low_sum.ensures.low (c.of-low.ensures ∙ ap whole (to_z-of_z w128 c.integer_range-low_sum.result.0 (search rules)));
  high = begun Greatest c.args.area.now c.args.terms.now c.as_slice-items.result.now c.integer_range-low_sum.result.2 _ _ c.as_slice-items.ensures c.integer_range-low_sum.ensures.high (c.of-high.ensures ∙ ap whole (to_z-of_z w128 c.integer_range-low_sum.result.1 (search rules)));
}

pub with_end-low-requires : goal.with_end-low-requires
with_end-low-requires c = room (next_behind c.args.area.now c.args.terms.now _ c.integer_range-low_sum.result.2 c.loop-term.term-index c.pair-column.result c.term-item.result c.span-span.result c.requires.limited c.requires.limited_box (rest_of_slice c.args.terms.now c.as_slice-items.result.now c.integer_range-low_sum.result.2 c.as_slice-items.ensures) c.loop-term-test.true c.pair-column.ensures c.term-item.is c.span-span.ensures) c.loop-term.invariant.low

pub with_end-high-requires : goal.with_end-high-requires
with_end-high-requires c = room (next_behind c.args.area.now c.args.terms.now _ c.integer_range-low_sum.result.2 c.loop-term.term-index c.pair-column.result c.term-item.result c.span-span.result c.requires.limited c.requires.limited_box (rest_of_slice c.args.terms.now c.as_slice-items.result.now c.integer_range-low_sum.result.2 c.as_slice-items.ensures) c.loop-term-test.true c.pair-column.ensures c.term-item.is c.span-span.ensures) c.loop-term.invariant.high

pub loop-term-preserved : goal.loop-term-preserved
loop-term-preserved c = record {
  low = one_more_behind c.integer_range-low_sum.result.2 c.loop-term.term-index (next_behind c.args.area.now c.args.terms.now _ c.integer_range-low_sum.result.2 c.loop-term.term-index c.pair-column.result c.term-item.result c.span-span.result c.requires.limited c.requires.limited_box (rest_of_slice c.args.terms.now c.as_slice-items.result.now c.integer_range-low_sum.result.2 c.as_slice-items.ensures) c.loop-term-test.true c.pair-column.ensures c.term-item.is c.span-span.ensures) c.loop-term.invariant.low c.with_end-low.ensures;
  high = one_more_behind c.integer_range-low_sum.result.2 c.loop-term.term-index (next_behind c.args.area.now c.args.terms.now _ c.integer_range-low_sum.result.2 c.loop-term.term-index c.pair-column.result c.term-item.result c.span-span.result c.requires.limited c.requires.limited_box (rest_of_slice c.args.terms.now c.as_slice-items.result.now c.integer_range-low_sum.result.2 c.as_slice-items.ensures) c.loop-term-test.true c.pair-column.ensures c.term-item.is c.span-span.ensures) c.loop-term.invariant.high c.with_end-high.ensures;
}

pub returns-clause-low : goal.returns-clause-low
returns-clause-low c = all_behind _ c.integer_range-low_sum.result.2 c.loop-term.term-index (rest_of_slice c.args.terms.now c.as_slice-items.result.now c.integer_range-low_sum.result.2 c.as_slice-items.ensures) (omega arith) c.loop-term.invariant.low

pub returns-clause-high : goal.returns-clause-high
returns-clause-high c = all_behind _ c.integer_range-low_sum.result.2 c.loop-term.term-index (rest_of_slice c.args.terms.now c.as_slice-items.result.now c.integer_range-low_sum.result.2 c.as_slice-items.ensures) (omega arith) c.loop-term.invariant.high
