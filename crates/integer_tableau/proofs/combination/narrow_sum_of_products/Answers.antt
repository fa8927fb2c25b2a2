use Rattle.std.proofs.Common.{◌*ℤ◌, rules, ◌∙◌, w64}
use mir.Val.{SFits}
use Rattle.std.proofs.lemmas.Int.{to_z-of_z}
use Rattle.integer_tableau.specs.Numbers.{number_at}
use Rattle.integer_tableau.proofs.CombinedLoops.{all_added}
use Rattle.integer_tableau.proofs.EntrySums.{entry_at, products_are}
use Rattle.integer_tableau.proofs.NarrowSums.{next_product_fits, next_sum_fits, next_sum}
use Rattle.integer_tableau.proofs.combination.narrow_sum_of_products.Goals as goal

pub overflow_mul-total : goal.overflow_mul-total
overflow_mul-total c =
    let ns = c.args.numbers.now in
    let es = c.entries-entries.result.now in
    let e = entry_at es c.loop-entry.entry-index in
    let f : SFits w64 e.number = search rules in
    let h : SFits w64 (number_at ns e.place) = search rules in
    next_product_fits c.args.coefficients.now ns es c.entries-entries.ensures c.requires.small.0 c.requires.small.1 c.requires.small.2 c.loop-entry.entry-index c.loop-entry-test.true
    _ _ c.loop-entry.invariant (λ i. to_z-of_z w64 e.number f i *ℤ to_z-of_z w64 (number_at ns e.place) h i)

pub overflow_add-total : goal.overflow_add-total
overflow_add-total c =
    let ns = c.args.numbers.now in
    let es = c.entries-entries.result.now in
    let e = entry_at es c.loop-entry.entry-index in
    let f : SFits w64 e.number = search rules in
    let h : SFits w64 (number_at ns e.place) = search rules in
    next_sum_fits c.args.coefficients.now ns es c.entries-entries.ensures c.requires.small.0 c.requires.small.1 c.requires.small.2 c.loop-entry.entry-index c.loop-entry-test.true
    _ _ c.loop-entry.invariant (λ i. to_z-of_z w64 e.number f i *ℤ to_z-of_z w64 (number_at ns e.place) h i)

pub loop-entry-preserved : goal.loop-entry-preserved
loop-entry-preserved c =
    let ns = c.args.numbers.now in
    let es = c.entries-entries.result.now in
    let e = entry_at es c.loop-entry.entry-index in
    let f : SFits w64 e.number = search rules in
    let h : SFits w64 (number_at ns e.place) = search rules in
    next_sum c.args.coefficients.now ns es c.entries-entries.ensures c.requires.small.0 c.requires.small.1 c.requires.small.2 c.loop-entry.entry-index c.loop-entry-test.true
    _ _ c.loop-entry.invariant (λ i. to_z-of_z w64 e.number f i *ℤ to_z-of_z w64 (number_at ns e.place) h i)

pub returns : goal.returns
returns c =
    let es = c.entries-entries.result.now in
    let ns = c.args.numbers.now in
    all_added (number_at ns) es c.loop-entry.entry-index _ c.loop-entry-test.false ∙ (c.loop-entry.invariant c.requires.small.0 c.requires.small.1).sum
    ∙ products_are c.args.coefficients.now es c.entries-entries.ensures ns c.requires.width
