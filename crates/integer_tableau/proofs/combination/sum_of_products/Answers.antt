use Rattle.std.proofs.Common.{◌+◌, ◌^◌, ◌<◌, ◌+ℤ◌, ◌*ℤ◌, nat_abs, drop, arith, rules, sym, subst, ◌∙◌, w64, to_z, of_z}
use Rattle.std.specs.Int.{w128}
use Rattle.std.specs.Int.Signed.{nat_abs-le}
use mir.Val.{SFits}
use Rattle.std.proofs.lemmas.Int.{to_z-of_z, fits_signed_from_abs}
use Rattle.integer_tableau.specs.Entries.{entry_size}
use Rattle.integer_tableau.specs.Numbers.{number_at}
use Rattle.fraction.specs.Lemmas.Integers.{back128}
use Rattle.integer_tableau.proofs.CombinedLoops.{IsSoFar, all_added, at_first, fits_so_far, next_entry}
use Rattle.integer_tableau.proofs.EntrySums.{entry_at, entry_sum, products_are, whole_size}
use Rattle.integer_tableau.proofs.combination.sum_of_products.Goals as goal

pub loop-entry-init : goal.loop-entry-init
loop-entry-init c =
    let es = c.entries-entries.result.now in
    at_first (entry_sum (number_at c.args.numbers.now) es) (entry_size es) (2 ^ 63)

next : (c : goal.After-product-total) → let es = c.entries-entries.result.now in let f = number_at c.args.numbers.now in let i = c.loop-entry.entry-index + 1 in
    IsSoFar (to_z w128 c.loop-entry.total-bits +ℤ to_z w128 (of_z w128 c.product-total.result)) (entry_sum f (drop i es)) (entry_sum f es) (entry_size (drop i es)) (entry_size es) (2 ^ 63)
next c =
    let ns = c.args.numbers.now in
    let es = c.entries-entries.result.now in
    let i = c.loop-entry.entry-index in
    let e = entry_at es i in
    let f : SFits w64 e.number = search rules in
    let h : SFits w64 (number_at ns e.place) = search rules in
    let k : SFits w128 c.product-total.result = search rules in
    next_entry (2 ^ 63) (number_at ns) es i (to_z w128 c.loop-entry.total-bits) (to_z w128 (of_z w128 c.product-total.result)) c.loop-entry-test.true
    (nat_abs-le (number_at ns e.place) h.sfits) c.loop-entry.invariant
    (to_z-of_z w128 c.product-total.result k ∙ c.product-total.ensures ∙ (λ i. to_z-of_z w64 e.number f i *ℤ to_z-of_z w64 (number_at ns e.place) h i))

fits : (c : goal.After-product-total) → nat_abs (to_z w128 c.loop-entry.total-bits +ℤ to_z w128 (of_z w128 c.product-total.result)) < 2 ^ 127
fits c =
    let es = c.entries-entries.result.now in
    fits_so_far _ _ _ _ _ _ (next c) (omega (arith, c.requires.light, whole_size c.args.coefficients.now es c.entries-entries.ensures))

pub overflow_add-total : goal.overflow_add-total
overflow_add-total c = fits_signed_from_abs w128 _ (fits c)

pub loop-entry-preserved : goal.loop-entry-preserved
loop-entry-preserved c =
    let es = c.entries-entries.result.now in
    let f = number_at c.args.numbers.now in
    let i = c.loop-entry.entry-index + 1 in
    subst (λ z. IsSoFar z (entry_sum f (drop i es)) (entry_sum f es) (entry_size (drop i es)) (entry_size es) (2 ^ 63)) (sym (back128 _ (fits c))) (next c)

pub returns : goal.returns
returns c =
    let es = c.entries-entries.result.now in
    let ns = c.args.numbers.now in
    all_added (number_at ns) es c.loop-entry.entry-index _ c.loop-entry-test.false ∙ c.loop-entry.invariant.sum
    ∙ products_are c.args.coefficients.now es c.entries-entries.ensures ns c.requires.width
