use Rattle.std.proofs.Common.{◌∙◌, ◌+◌, ap, sym, subst, rules}
use Rattle.std.specs.Prelude.{slice_get}
use Rattle.std.specs.Int.{w128}
use Rattle.std.proofs.lemmas.Int.{to_z-of_z}
use Rattle.row_activity.specs.declared.activity.Extreme.TheVariants.{Least, Greatest}
use Rattle.row_activity.specs.Activity.{low_end, high_end}
use Rattle.row_activity.specs.IntegerSums.{IsIntegerSum}
use Rattle.row_activity.proofs.IntegerSteps.{coefficient_is, no_integers, integer_room, one_more_integer}
use Rattle.row_activity.proofs.activity.integer_range.Goals as goal

pub loop-index-init : goal.loop-index-init
loop-index-init c = record { low = no_integers low_end c.args.area.now c.args.terms.now; high = no_integers high_end c.args.area.now c.args.terms.now }

pub with_integer_end-low-requires : goal.with_integer_end-low-requires
with_integer_end-low-requires c = integer_room Least record { limited = c.requires.limited; area = c.requires.limited_box; within = c.loop-index-test.true; item = c.index-terms-index.is; there = ap (slice_get c.args.area.now) (sym c.column.ensures) ∙ c.span-span.ensures } c.loop-index.invariant.low _ (coefficient_is c.index-terms-index.result.1 c.in-Some.coefficient (search rules) c.in-Some.ensures)

pub with_integer_end-high-requires : goal.with_integer_end-high-requires
with_integer_end-high-requires c = integer_room Greatest record { limited = c.requires.limited; area = c.requires.limited_box; within = c.loop-index-test.true; item = c.index-terms-index.is; there = ap (slice_get c.args.area.now) (sym c.column.ensures) ∙ c.span-span.ensures } c.loop-index.invariant.high _ (coefficient_is c.index-terms-index.result.1 c.in-Some.coefficient (search rules) c.in-Some.ensures)

pub loop-index-preserved : goal.loop-index-preserved
loop-index-preserved c = record {
  low = subst (IsIntegerSum low_end c.args.area.now c.args.terms.now (c.loop-index.index + 1)) (sym (to_z-of_z w128 c.with_integer_end-low.result (record { sfits = c.with_integer_end-low.type_inv }) ∙ c.with_integer_end-low.ensures))
      (one_more_integer Least record { limited = c.requires.limited; area = c.requires.limited_box; within = c.loop-index-test.true; item = c.index-terms-index.is; there = ap (slice_get c.args.area.now) (sym c.column.ensures) ∙ c.span-span.ensures } c.loop-index.invariant.low _ (coefficient_is c.index-terms-index.result.1 c.in-Some.coefficient (search rules) c.in-Some.ensures));
  high = subst (IsIntegerSum high_end c.args.area.now c.args.terms.now (c.loop-index.index + 1)) (sym (to_z-of_z w128 c.with_integer_end-high.result (record { sfits = c.with_integer_end-high.type_inv }) ∙ c.with_integer_end-high.ensures))
      (one_more_integer Greatest record { limited = c.requires.limited; area = c.requires.limited_box; within = c.loop-index-test.true; item = c.index-terms-index.is; there = ap (slice_get c.args.area.now) (sym c.column.ensures) ∙ c.span-span.ensures } c.loop-index.invariant.high _ (coefficient_is c.index-terms-index.result.1 c.in-Some.coefficient (search rules) c.in-Some.ensures));
}
