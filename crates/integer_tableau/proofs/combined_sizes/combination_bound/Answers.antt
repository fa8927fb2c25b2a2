use Rattle.std.proofs.Common.{◌≡◌, ◌<◌, ◌≤◌, ◌+◌, ◌*◌, ◌∙◌, [], ℕ, get_or, inl, length, nat_abs, arith, rules, ap, subst, w64, to_z, of_z}
use mir.Val.{SFits}
use Rattle.std.proofs.lemmas.Int.{to_z-of_z}
use Rattle.std.proofs.lemmas.List.{get_or_default}
use Rattle.integer_tableau.specs.Combined.{combined}
use Rattle.integer_tableau.specs.Numbers.{number_at}
use Rattle.integer_tableau.specs.declared.position.Position.TheVariants.{InBasis}
use Rattle.integer_tableau.proofs.CombinationBounds.{bounded_more, bounded_whole, places_rise}
use Rattle.integer_tableau.proofs.EntrySums.{combined_is, entry_at}
use Rattle.integer_tableau.proofs.Lists.{if_some}
use Rattle.integer_tableau.proofs.combined_sizes.combination_bound.Goals as goal

pub loop-entry-init : goal.loop-entry-init
loop-entry-init c = λ k. inl (omega arith)

pub loop-entry-preserved : goal.loop-entry-preserved
loop-entry-preserved c = λ k.
    let es = c.entries-entries.result.now in
    let i = c.loop-entry.entry-index in
    let e = entry_at es i in
    let j = e.place in
    let s = get_or c.args.positions.now j InBasis in
    let ls = c.args.rows.now in
    let d = nat_abs (to_z w64 (of_z w64 c.args.denominator)) in
    let f : SFits w64 e.number = search rules in
    let m : j < length ls = omega (arith, c.entries-entries.ensures.within i c.loop-entry-test.true, c.requires.rows_there) in
    let row_is = c.index-rows-j.is ∙ get_or_default ls j c.index-rows-j.result [] m in
    let size : c.unsigned_abs.result ≡ nat_abs e.number = c.unsigned_abs.ensures.value ∙ ap nat_abs (to_z-of_z w64 e.number f) in
    let p = c.in_ok-parts.parts in
    bounded_more d c.args.positions.now ls es k i c.loop-entry.parts.basic c.loop-entry.parts.nonbasic p.basic p.nonbasic c.loop-entry-test.true
    (λ h b l. places_rise 0 (length c.args.coefficients.now) es c.entries-entries.ensures.rising i h b l) c.requires.apart c.in_ok-parts.ensures.basic_more c.in_ok-parts.ensures.nonbasic_more
    (λ q. subst (λ row. c.loop-entry.parts.basic + nat_abs e.number * nat_abs (number_at row k) ≤ p.basic) row_is
    (subst (λ n. c.loop-entry.parts.basic + n * nat_abs (number_at c.index-rows-j.result k) ≤ p.basic) size (c.in_ok-parts.ensures.basic k q)))
    (λ h q. subst (λ n. n ≤ p.nonbasic) size (c.in_ok-parts.ensures.nonbasic h q)) (c.loop-entry.invariant k)

pub returns : goal.returns
returns c =
    let es = c.entries-entries.result.now in
    let cs = c.args.coefficients.now in
    let ss = c.args.positions.now in
    let ls = c.args.rows.now in
    let p = c.loop-entry.parts in
    let d = nat_abs (to_z w64 (of_z w64 c.args.denominator)) in
    if_some (λ t. t ≡ p.basic + p.nonbasic * c.unsigned_abs-2.result) (λ b. (k : ℕ) → nat_abs (combined (nat_abs c.args.denominator) cs ss ls k) ≤ b) c.with_product.result
    (λ t is k. subst (λ z. nat_abs z ≤ t)
    (combined_is cs es c.entries-entries.ensures d ss ls k c.requires.positions_there c.requires.rows_there ∙ ap (λ z. combined (nat_abs z) cs ss ls k) (to_z-of_z w64 c.args.denominator c.ranges.denominator))
    (omega (arith, is, ap (λ n. p.nonbasic * n) c.unsigned_abs-2.ensures.value, bounded_whole d ss ls es k c.loop-entry.entry-index p.basic p.nonbasic c.loop-entry-test.false (c.loop-entry.invariant k))))
    c.with_product.ensures
