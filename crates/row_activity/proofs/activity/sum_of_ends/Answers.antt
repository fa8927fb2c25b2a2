use Rattle.std.proofs.Common.{◌∙◌, ap, arith, rules}
use Rattle.std.specs.Int.{w128}
use Rattle.std.proofs.lemmas.Int.{to_z-of_z}
use Rattle.fraction.specs.Rational.{whole}
use Rattle.row_activity.proofs.Steps.{room, rest_of_slice, next_behind, all_behind, one_more_behind}
use Rattle.row_activity.proofs.IntegerSteps.{begun}
use Rattle.row_activity.proofs.activity.sum_of_ends.Goals as goal

pub loop-term-init : goal.loop-term-init
loop-term-init c = begun c.args.extreme c.args.area.now c.args.terms.now c.as_slice-items.result.now c.integer_sum-sum.result.1 _ _ c.as_slice-items.ensures c.integer_sum-sum.ensures (c.of-total.ensures ∙ ap whole (to_z-of_z w128 c.integer_sum-sum.result.0 (search rules)))

pub with_end-total-requires : goal.with_end-total-requires
with_end-total-requires c = room (next_behind c.args.area.now c.args.terms.now _ c.integer_sum-sum.result.1 c.loop-term.term-index c.pair-column.result c.term-item.result c.span.result c.requires.limited c.requires.limited_box (rest_of_slice c.args.terms.now c.as_slice-items.result.now c.integer_sum-sum.result.1 c.as_slice-items.ensures) c.loop-term-test.true c.pair-column.ensures c.term-item.is c.span.ensures) c.loop-term.invariant

pub loop-term-preserved : goal.loop-term-preserved
loop-term-preserved c = one_more_behind c.integer_sum-sum.result.1 c.loop-term.term-index (next_behind c.args.area.now c.args.terms.now _ c.integer_sum-sum.result.1 c.loop-term.term-index c.pair-column.result c.term-item.result c.span.result c.requires.limited c.requires.limited_box (rest_of_slice c.args.terms.now c.as_slice-items.result.now c.integer_sum-sum.result.1 c.as_slice-items.ensures) c.loop-term-test.true c.pair-column.ensures c.term-item.is c.span.ensures) c.loop-term.invariant c.with_end-total.ensures

pub returns : goal.returns
returns c = all_behind _ c.integer_sum-sum.result.1 c.loop-term.term-index (rest_of_slice c.args.terms.now c.as_slice-items.result.now c.integer_sum-sum.result.1 c.as_slice-items.ensures) (omega arith) c.loop-term.invariant
