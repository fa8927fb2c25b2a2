use Rattle.std.proofs.Common.{◌∙◌, ◌+◌, ap, sym, subst, rules}
use Rattle.std.specs.Prelude.{slice_get}
use Rattle.std.specs.Int.{w128}
use Rattle.std.proofs.lemmas.Int.{to_z-of_z}
use mir.Val.{SFits}
use Rattle.row_activity.specs.Activity.{end_for}
use Rattle.row_activity.specs.IntegerSums.{IsIntegerSum}
use Rattle.row_activity.proofs.IntegerSteps.{coefficient_is, no_integers, integer_room, one_more_integer}
use Rattle.row_activity.proofs.activity.integer_sum.Goals as goal

pub loop-index-init : goal.loop-index-init
loop-index-init c = no_integers (end_for c.args.extreme) c.args.area.now c.args.terms.now

pub with_integer_end-total-requires : goal.with_integer_end-total-requires
with_integer_end-total-requires c = integer_room c.args.extreme record { limited = c.requires.limited; area = c.requires.limited_box; within = c.loop-index-test.true; item = c.index-terms-index.is; there = ap (slice_get c.args.area.now) (sym c.column.ensures) ∙ c.span-span.ensures } c.loop-index.invariant _ (coefficient_is c.index-terms-index.result.1 c.in-Some.coefficient (search rules) c.in-Some.ensures)

pub loop-index-preserved : goal.loop-index-preserved
loop-index-preserved c =
    let r = c.with_integer_end-total.result in
    let fits : SFits w128 r = record { sfits = c.with_integer_end-total.type_inv } in
    subst (IsIntegerSum (end_for c.args.extreme) c.args.area.now c.args.terms.now (c.loop-index.index + 1)) (sym (to_z-of_z w128 r fits ∙ c.with_integer_end-total.ensures))
    (one_more_integer c.args.extreme record { limited = c.requires.limited; area = c.requires.limited_box; within = c.loop-index-test.true; item = c.index-terms-index.is; there = ap (slice_get c.args.area.now) (sym c.column.ensures) ∙ c.span-span.ensures } c.loop-index.invariant _ (coefficient_is c.index-terms-index.result.1 c.in-Some.coefficient (search rules) c.in-Some.ensures))
