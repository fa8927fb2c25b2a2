use Rattle.std.proofs.Common.{◌+◌, ◌<◌, ◌-◌, ◌∙◌, ◌+ℤ◌, ◌*ℤ◌, [], get_or, length, nat_abs, ap, arith, refl, rules, drop, subst, sym, w64, to_z, of_z}
use mir.Val.{SFits}
use Rattle.std.proofs.lemmas.Int.{to_z-of_z}
use Rattle.std.proofs.lemmas.List.{get_or_default}
use Rattle.integer_tableau.specs.Combined.{combined, numerator_of}
use Rattle.integer_tableau.specs.Entries.{entry_size}
use Rattle.integer_tableau.specs.Numbers.{IsWithin, number_at}
use Rattle.integer_tableau.specs.Range.{size_limit}
use Rattle.integer_tableau.specs.declared.position.Position.TheVariants.{InBasis}
use Rattle.integer_tableau.proofs.CombinedLoops.{IsSoFar, all_added, at_first, next_entry, room_so_far}
use Rattle.integer_tableau.proofs.Combining.{numerator_within}
use Rattle.integer_tableau.proofs.EntrySums.{combined_is, entry_at, entry_sum, said_of, whole_size}
use Rattle.integer_tableau.proofs.combination.add_columns.Goals as goal

pub loop-entry-init : goal.loop-entry-init
loop-entry-init c = λ k.
    let es = c.entries-entries.result.now in
    let all = entry_sum (said_of (nat_abs (to_z w64 (of_z w64 c.args.denominator))) c.args.positions.now c.args.rows.now k) es in
    subst (λ z. IsSoFar z all all (entry_size es) (entry_size es) size_limit) (sym (c.requires.zero k)) (at_first all (entry_size es) size_limit)

pub add_column-requires-clause-row_small : goal.add_column-requires-clause-row_small
add_column-requires-clause-row_small c =
    let ls = c.args.rows.now in
    let j = (entry_at c.entries-entries.result.now c.loop-entry.entry-index).place in
    let m : j < length ls = omega (arith, c.entries-entries.ensures.within c.loop-entry.entry-index c.loop-entry-test.true, c.requires.rows_there) in
    subst (IsWithin (size_limit - 1)) (sym (c.index-rows-j.is ∙ get_or_default ls j c.index-rows-j.result [] m)) (c.requires.rows_small j m)

pub add_column-requires-clause-room : goal.add_column-requires-clause-room
add_column-requires-clause-room c = λ k.
    let es = c.entries-entries.result.now in
    let i = c.loop-entry.entry-index in
    let f : SFits w64 (entry_at es i).number = search rules in
    omega (
      arith,
      room_so_far es i _ _ _ size_limit c.loop-entry-test.true (c.loop-entry.invariant k)
          (omega (arith, c.requires.light, whole_size c.args.coefficients.now es c.entries-entries.ensures)),
      ap nat_abs (to_z-of_z w64 (entry_at es i).number f),
    )

pub loop-entry-preserved : goal.loop-entry-preserved
loop-entry-preserved c = λ k.
    let es = c.entries-entries.result.now in
    let i = c.loop-entry.entry-index in
    let e = entry_at es i in
    let j = e.place in
    let s = get_or c.args.positions.now j InBasis in
    let ls = c.args.rows.now in
    let d = nat_abs (to_z w64 (of_z w64 c.args.denominator)) in
    let back = ap nat_abs (to_z-of_z w64 c.args.denominator c.ranges.denominator) in
    let f : SFits w64 e.number = search rules in
    let m : j < length ls = omega (arith, c.entries-entries.ensures.within i c.loop-entry-test.true, c.requires.rows_there) in
    let row_is = c.index-rows-j.is ∙ get_or_default ls j c.index-rows-j.result [] m in
    let said = said_of d c.args.positions.now ls k in
    let new_is = c.if-not-add_column.ensures refl k ∙ (λ i. number_at c.loop-entry.sums k +ℤ to_z-of_z w64 e.number f i *ℤ numerator_of d (row_is i) s k) in
    subst (λ z. IsSoFar z (entry_sum said (drop (i + 1) es)) (entry_sum said es) (entry_size (drop (i + 1) es)) (entry_size es) size_limit) (sym new_is)
    (next_entry size_limit said es i (number_at c.loop-entry.sums k) (e.number *ℤ said j) c.loop-entry-test.true
    (numerator_within d size_limit k (get_or ls j []) s (omega (arith, back, c.requires.small)) (λ k. omega (arith, c.requires.rows_small j m k))) (c.loop-entry.invariant k) refl)

pub returns : goal.returns
returns c = λ _ k.
    let es = c.entries-entries.result.now in
    let d = nat_abs (to_z w64 (of_z w64 c.args.denominator)) in
    let ss = c.args.positions.now in
    let ls = c.args.rows.now in
    all_added (said_of d ss ls k) es c.loop-entry.entry-index (number_at c.loop-entry.sums k) c.loop-entry-test.false ∙ (c.loop-entry.invariant k).sum
    ∙ combined_is c.args.coefficients.now es c.entries-entries.ensures d ss ls k c.requires.positions_there c.requires.rows_there
    ∙ ap (λ z. combined (nat_abs z) c.args.coefficients.now ss ls k) (to_z-of_z w64 c.args.denominator c.ranges.denominator)
