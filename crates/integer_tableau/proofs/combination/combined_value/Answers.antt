use Rattle.std.proofs.Common.{◌+◌, ◌*◌, ◌^◌, ◌<◌, ◌+ℤ◌, ◌*ℤ◌, nat_abs, pos, get_or, drop, arith, rules, ap, sym, subst, ◌∙◌, w64, to_z, of_z, ℤ}
use Rattle.std.specs.Int.{w128}
use Rattle.std.specs.Int.Signed.{nat_abs-le}
use mir.Val.{SFits}
use Rattle.std.proofs.lemmas.Int.{to_z-of_z, fits_signed_from_abs}
use Rattle.integer_tableau.specs.Combined.{combined_value, value_numerator}
use Rattle.integer_tableau.specs.Entries.{entry_size}
use Rattle.integer_tableau.specs.Numbers.{number_at}
use Rattle.integer_tableau.specs.declared.position.Position.TheVariants.{InBasis}
use Rattle.fraction.specs.Lemmas.Integers.{back128}
use Rattle.integer_tableau.proofs.CombinedLoops.{IsSoFar, all_added, at_first, fits_so_far, next_entry, value_size}
use Rattle.integer_tableau.proofs.EntrySums.{entry_at, entry_sum, value_is, value_over, whole_size}
use Rattle.integer_tableau.proofs.combination.combined_value.Goals as goal

pub loop-entry-init : goal.loop-entry-init
loop-entry-init c =
    let es = c.entries-entries.result.now in
    at_first (entry_sum (value_over (to_z w64 (of_z w64 c.args.denominator)) c.args.positions.now c.args.nonbasic_values.now c.args.values.now) es) (entry_size es) (2 ^ 63)

pub value_term-total-requires : goal.value_term-total-requires
value_term-total-requires c =
    let xs = c.args.nonbasic_values.now in
    let es = c.entries-entries.result.now in
    let i = c.loop-entry.entry-index in
    let j = (entry_at es i).place in
    let g : SFits w64 (get_or xs j (pos 0)) = search rules in
    subst (λ z. nat_abs z * nat_abs (to_z w64 (of_z w64 c.args.denominator)) < 2 ^ 63) (sym (to_z-of_z w64 (get_or xs j (pos 0)) g))
    (subst (λ z. nat_abs (get_or xs j (pos 0)) * nat_abs z < 2 ^ 63) (sym (to_z-of_z w64 c.args.denominator c.ranges.denominator))
    (c.requires.near j (c.entries-entries.ensures.within i c.loop-entry-test.true)))

next : (c : goal.After-value_term-total) → let es = c.entries-entries.result.now in let i = c.loop-entry.entry-index + 1 in
    let f = value_over (to_z w64 (of_z w64 c.args.denominator)) c.args.positions.now c.args.nonbasic_values.now c.args.values.now in
    IsSoFar (to_z w128 c.loop-entry.total-bits +ℤ to_z w128 (of_z w128 c.value_term-total.result)) (entry_sum f (drop i es)) (entry_sum f es) (entry_size (drop i es)) (entry_size es) (2 ^ 63)
next c =
    let d = to_z w64 (of_z w64 c.args.denominator) in
    let back = to_z-of_z w64 c.args.denominator c.ranges.denominator in
    let ss = c.args.positions.now in
    let xs = c.args.nonbasic_values.now in
    let vs = c.args.values.now in
    let es = c.entries-entries.result.now in
    let i = c.loop-entry.entry-index in
    let e = entry_at es i in
    let j = e.place in
    let l = c.entries-entries.ensures.within i c.loop-entry-test.true in
    let f : SFits w64 e.number = search rules in
    let g : SFits w64 (get_or xs j (pos 0)) = search rules in
    let h : SFits w64 (get_or vs j (pos 0)) = search rules in
    let k : SFits w128 c.value_term-total.result = search rules in
    next_entry (2 ^ 63) (value_over d ss xs vs) es i (to_z w128 c.loop-entry.total-bits) (to_z w128 (of_z w128 c.value_term-total.result)) c.loop-entry-test.true
    (value_size d (get_or ss j InBasis) (number_at xs j) (number_at vs j) (subst (λ z. nat_abs (number_at xs j) * nat_abs z < 2 ^ 63) (sym back) (c.requires.near j l))
    (nat_abs-le (get_or vs j (pos 0)) h.sfits)) c.loop-entry.invariant
    (to_z-of_z w128 c.value_term-total.result k ∙ c.value_term-total.ensures
    ∙ (λ i. to_z-of_z w64 e.number f i *ℤ value_numerator d (get_or ss j InBasis) (to_z-of_z w64 (get_or xs j (pos 0)) g i) (to_z-of_z w64 (get_or vs j (pos 0)) h i)))

fits : (c : goal.After-value_term-total) → nat_abs (to_z w128 c.loop-entry.total-bits +ℤ to_z w128 (of_z w128 c.value_term-total.result)) < 2 ^ 127
fits c =
    let es = c.entries-entries.result.now in
    fits_so_far _ _ _ _ _ _ (next c) (omega (arith, c.requires.light, whole_size c.args.coefficients.now es c.entries-entries.ensures))

pub overflow_add-total : goal.overflow_add-total
overflow_add-total c = fits_signed_from_abs w128 _ (fits c)

pub loop-entry-preserved : goal.loop-entry-preserved
loop-entry-preserved c =
    let es = c.entries-entries.result.now in
    let f = value_over (to_z w64 (of_z w64 c.args.denominator)) c.args.positions.now c.args.nonbasic_values.now c.args.values.now in
    let i = c.loop-entry.entry-index + 1 in
    subst (λ z. IsSoFar z (entry_sum f (drop i es)) (entry_sum f es) (entry_size (drop i es)) (entry_size es) (2 ^ 63)) (sym (back128 _ (fits c))) (next c)

pub returns : goal.returns
returns c =
    let d = to_z w64 (of_z w64 c.args.denominator) in
    let cs = c.args.coefficients.now in
    let ss = c.args.positions.now in
    let xs = c.args.nonbasic_values.now in
    let vs = c.args.values.now in
    let es = c.entries-entries.result.now in
    all_added (value_over d ss xs vs) es c.loop-entry.entry-index _ c.loop-entry-test.false ∙ c.loop-entry.invariant.sum
    ∙ value_is cs es c.entries-entries.ensures d ss xs vs c.requires.positions_there c.requires.nonbasic_values_there c.requires.values_there
    ∙ ap (λ (d : ℤ). combined_value d cs ss xs vs) (to_z-of_z w64 c.args.denominator c.ranges.denominator)
