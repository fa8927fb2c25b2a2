use Rattle.std.proofs.Common.{◌+ℤ◌, ◌*ℤ◌, pos, length, get_or, arith, ap, rules, ◌∙◌, w64}
use Rattle.std.specs.Int.{int_wrap}
use mir.Val.{SFits}
use Rattle.std.proofs.lemmas.Int.{to_z-of_z}
use Rattle.integer_tableau.specs.Arena.{basic_sum, flat_row}
use Rattle.integer_tableau.specs.Numbers.{number_at}
use Rattle.integer_tableau.proofs.KeptSums.{basic_more}
use Rattle.integer_tableau.proofs.low_sums.add_basic.Goals as goal

pub loop-index-preserved : goal.loop-index-preserved
loop-index-preserved c = λ k h.
    let n = length c.args.sums.now in
    let i = c.loop-index.index in
    let cs = c.args.coefficients.now in
    let columns = c.args.basic_columns.now in
    let ns = c.args.rows.now in
    let f : SFits w64 (get_or cs (get_or columns i 0) (pos 0)) = search rules in
    basic_more n k cs ns columns i (number_at c.loop-index.sums k) (number_at c.add_multiple.new.sums k) (number_at c.args.sums.now k +ℤ basic_sum n cs ns k 0 columns) c.loop-index-test.true (c.loop-index.invariant k h)
    (c.add_multiple.ensures k (omega (arith, h, c.loop-index.auto.sums))
    ∙ ap (λ z. int_wrap w64 (number_at c.loop-index.sums k +ℤ z *ℤ number_at (flat_row n ns i) k)) (to_z-of_z w64 (get_or cs (get_or columns i 0) (pos 0)) f))
