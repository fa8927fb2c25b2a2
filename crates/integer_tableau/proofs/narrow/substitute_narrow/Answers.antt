use Rattle.std.proofs.Common.{◌≡◌, ℕ, ◌+◌, ◌*◌, ◌%◌, ◌^◌, ◌<◌, ◌+ℤ◌, ◌*ℤ◌, ℤ, nat_abs, w64, to_z, of_z, length, arith, ap, sym, subst, ◌∙◌, rules}
use mir.Val.{SFits}
use borrow.Author.Tests.{eqb-true}
use Rattle.std.specs.Int.{int_wrap}
use Rattle.std.proofs.lemmas.Int.{to_z-of_z}
use Rattle.std.proofs.lemmas.Nat.{one_shl}
use Rattle.integer_tableau.specs.Numbers.{number_at}
use Rattle.integer_tableau.proofs.Loops.{AreSubstitutedTo, all_summed, one_more}
use Rattle.integer_tableau.proofs.narrow.substitute_narrow.Goals as goal
use Rattle.integer_tableau.proofs.narrow.substitute_narrow.Goals.{then-at-row, else-at-row}

quotient_is : (e inverse quotient : ℤ) → SFits w64 inverse → SFits w64 quotient → quotient ≡ int_wrap w64 (e *ℤ to_z w64 (of_z w64 inverse)) → to_z w64 (of_z w64 quotient) ≡ int_wrap w64 (e *ℤ inverse)
quotient_is e inverse quotient f h is = to_z-of_z w64 quotient h ∙ is ∙ (λ j. int_wrap w64 (e *ℤ to_z-of_z w64 inverse f j))

still_fits : (x s e q : ℤ) → SFits w64 e → SFits w64 q → nat_abs x * nat_abs e + nat_abs s * nat_abs q < 2 ^ 63
    → nat_abs x * nat_abs (to_z w64 (of_z w64 e)) + nat_abs s * nat_abs (to_z w64 (of_z w64 q)) < 2 ^ 63
still_fits x s e q f h fits = subst (λ n. n < 2 ^ 63) (sym (λ j. nat_abs x * nat_abs (to_z-of_z w64 e f j) + nat_abs s * nat_abs (to_z-of_z w64 q h j))) fits

pub loop-row-preserved : goal.loop-row-preserved
loop-row-preserved c =
    let row = c.args.row.now in
    let source = c.args.source.now in
    let d = c.args.divisor in
    let e = to_z w64 (of_z w64 c.args.row_factor) in
    let q = to_z w64 (of_z w64 c.args.source_factor) in
    let at = c.loop-row.at in
    let one = c.substitute_at-raised_sums in
    let two = c.substitute_at-raised_sums-in-loop-row in
    let p = quotient_is e d.inverse c.low_product-row_quotient.result (search rules) (search rules) c.low_product-row_quotient.ensures in
    let r = quotient_is q d.inverse c.low_product-source_quotient.result (search rules) (search rules) c.low_product-source_quotient.ensures in
    let fits = λ (k : ℕ). still_fits (number_at row k) (number_at source k) c.args.row_factor c.args.source_factor c.ranges.row_factor c.ranges.source_factor (c.requires.fits k) in
    record {
      within = omega (arith, one.auto.row, two.auto.row);
      so_far = one_more (at + 1) (at + 2) _ two.result (2 * d.reach) d.zeros d.number e q row source one.new.row two.new.row (omega arith) two.ensures.others
          (one_more at (at + 1) c.loop-row.raised_sums one.result (2 * d.reach) d.zeros d.number e q row source c.loop-row.row one.new.row (omega arith) one.ensures.others
          c.loop-row.invariant.so_far (one.ensures.exact e q p r) (fits at))
          (two.ensures.exact e q p r) (fits (at + 1));
    }

pub returns-then-raised_sums-reach-2 : goal.returns-then-raised_sums-reach-2
returns-then-raised_sums-reach-2 c = λ a.
    let row = c.args.row.now in
    let source = c.args.source.now in
    let d = c.args.divisor in
    let e = to_z w64 (of_z w64 c.args.row_factor) in
    let q = to_z w64 (of_z w64 c.args.source_factor) in
    let back_row = to_z-of_z w64 c.args.row_factor c.ranges.row_factor in
    let back_source = to_z-of_z w64 c.args.source_factor c.ranges.source_factor in
    let at = c.loop-row.at in
    let before = c.loop-row.invariant.so_far in
    let whole = ap (λ z. c.if-at-row.raised_sums % z) (sym (one_shl d.zeros 64 d.few_zeros)) ∙ eqb-true _ _ a in
    let all : AreSubstitutedTo (length row) c.if-at-row.raised_sums (2 * d.reach) d.zeros d.number e q row source c.if-at-row.row = elim c.if-at-row.branch [
      | then-at-row w ↦
          let last = w.substitute_at-raised_sums-then-at-row in
          let p = quotient_is e d.inverse c.low_product-row_quotient.result (search rules) (search rules) c.low_product-row_quotient.ensures in
          let r = quotient_is q d.inverse c.low_product-source_quotient.result (search rules) (search rules) c.low_product-source_quotient.ensures in
          let fits = still_fits (number_at row at) (number_at source at) c.args.row_factor c.args.source_factor c.ranges.row_factor c.ranges.source_factor (c.requires.fits at) in
          let n : length c.args.row.now ≡ c.loop-row.at + 1 = omega (arith, c.loop-row.auto.row, w.if-at-row.true, c.loop-row-test.false) in
          rw (w.row-is, w.raised_sums-is)
          (one_more at (length row) c.loop-row.raised_sums last.result (2 * d.reach) d.zeros d.number e q row source c.loop-row.row last.new.row n last.ensures.others before (last.ensures.exact e q p r) fits)
      | else-at-row w ↦
          let n : c.loop-row.at ≡ length c.args.row.now = omega (arith, c.loop-row.auto.row, c.loop-row.invariant.within, w.if-at-row.false) in
          rw (w.row-is, w.raised_sums-is) (rw n at before)
    ] in
    all_summed c.if-at-row.row row source d.number c.args.row_factor c.args.source_factor (omega (arith, c.if-at-row.auto.row, c.loop-row.auto.row)) (omega arith)
    (λ k h. all.done c.if-raised_sums-reach-2.true whole k h ∙ (λ j. number_at row k *ℤ back_row j +ℤ number_at source k *ℤ back_source j))
