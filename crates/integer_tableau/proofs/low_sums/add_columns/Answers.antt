use Rattle.std.proofs.Common.{◌<◌, ◌∙◌, ◌+ℤ◌, ◌*ℤ◌, [], get_or, length, nat_abs, ap, arith, refl, rules, w64, to_z, of_z}
use Rattle.std.specs.Int.{int_wrap}
use mir.Val.{SFits}
use Rattle.std.proofs.lemmas.Int.{to_z-of_z}
use Rattle.std.proofs.lemmas.List.{get_or_default}
use Rattle.integer_tableau.specs.Combined.{combined, numerator_of}
use Rattle.integer_tableau.specs.Numbers.{number_at}
use Rattle.integer_tableau.specs.declared.position.Position.TheVariants.{InBasis}
use Rattle.integer_tableau.proofs.CombinedLoops.{all_added, none_added}
use Rattle.integer_tableau.proofs.EntrySums.{combined_is, entry_at, entry_sum, said_of}
use Rattle.integer_tableau.proofs.LowSums.{low_column_more}
use Rattle.integer_tableau.proofs.low_sums.add_columns.Goals as goal

pub loop-entry-init : goal.loop-entry-init
loop-entry-init c = λ k h. ap (int_wrap w64) (none_added (number_at c.args.sums.now k) _ (c.requires.zero k))

pub loop-entry-preserved : goal.loop-entry-preserved
loop-entry-preserved c = λ k h.
    let es = c.entries-entries.result.now in
    let i = c.loop-entry.entry-index in
    let e = entry_at es i in
    let j = e.place in
    let s = get_or c.args.positions.now j InBasis in
    let d = nat_abs (to_z w64 (of_z w64 c.args.denominator)) in
    let f : SFits w64 e.number = search rules in
    let m : j < length c.args.rows.now = omega (arith, c.entries-entries.ensures.within i c.loop-entry-test.true, c.requires.rows_there) in
    let row_is = c.index-rows-j.is ∙ get_or_default c.args.rows.now j c.index-rows-j.result [] m in
    let said = said_of d c.args.positions.now c.args.rows.now k in
    low_column_more said es i (number_at c.loop-entry.sums k) (number_at c.add_column.new.sums k) (entry_sum said es) c.loop-entry-test.true (c.loop-entry.invariant k h)
    (c.if-not-add_column.ensures refl k (omega (arith, h, c.loop-entry.auto.sums))
    ∙ (λ i. int_wrap w64 (number_at c.loop-entry.sums k +ℤ to_z-of_z w64 e.number f i *ℤ numerator_of d (row_is i) s k)))

pub returns : goal.returns
returns c = λ _ k h.
    let es = c.entries-entries.result.now in
    let d = nat_abs (to_z w64 (of_z w64 c.args.denominator)) in
    let ss = c.args.positions.now in
    let ls = c.args.rows.now in
    ap (int_wrap w64) (all_added (said_of d ss ls k) es c.loop-entry.entry-index (number_at c.loop-entry.sums k) c.loop-entry-test.false) ∙ c.loop-entry.invariant k h
    ∙ ap (int_wrap w64) (combined_is c.args.coefficients.now es c.entries-entries.ensures d ss ls k c.requires.positions_there c.requires.rows_there
    ∙ ap (λ z. combined (nat_abs z) c.args.coefficients.now ss ls k) (to_z-of_z w64 c.args.denominator c.ranges.denominator))
