use Rattle.std.proofs.Common.{◌≡◌, ◌<◌, ◌+ℤ◌, ◌*ℤ◌, [], get_or, ap, arith, length, rules, sym, ◌∙◌, w64, to_z, of_z}
use Rattle.std.specs.Prelude.{neg_ℤ}
use Rattle.std.specs.Int.{int_wrap, int_wrapping_neg}
use mir.Val.{SFits}
use Rattle.std.proofs.lemmas.Int.{to_z-of_z, wrapping_neg_is}
use Rattle.integer_tableau.proofs.RowSums.{sum_turned, turned_wrapped}
use Rattle.integer_tableau.specs.Numbers.{number_at}
use Rattle.integer_tableau.specs.RowSums.{nonbasic_sum}
use Rattle.integer_tableau.proofs.row_sums.turn_sums.Goals as goal

pub returns : goal.returns
returns c = λ ps ss xs k j are sums many r_there c_there at_r at_c left_is i l.
    let cs = get_or ps i [] in
    let z = number_at cs c.args.leaving in
    let w = number_at cs c.args.entering in
    let old = number_at c.args.row_sums.now i in
    let between = number_at c.add_column.new.row_sums i in
    let new = number_at c.add_column-2.new.row_sums i in
    let m : i < length c.add_column.new.row_sums = omega (arith, l, c.add_column-2.auto.row_sums) in
    let n : i < length c.args.row_sums.now = omega (arith, m, c.add_column.auto.row_sums) in
    let f : SFits w64 c.wrapping_neg.result = search rules in
    let factor : to_z w64 (of_z w64 c.wrapping_neg.result) ≡ int_wrap w64 (neg_ℤ c.args.left) = to_z-of_z w64 c.wrapping_neg.result f ∙ c.wrapping_neg.ensures
    ∙ ap (int_wrapping_neg w64) (to_z-of_z w64 c.args.left c.ranges.left) ∙ wrapping_neg_is w64 c.args.left c.ranges.left in
    turned_wrapped new between old (nonbasic_sum cs ss xs) c.args.bound c.args.left z w (sums i n)
    (c.add_column.ensures ps are i n ∙ ap (λ y. int_wrap w64 (old +ℤ y *ℤ z)) (to_z-of_z w64 c.args.bound c.ranges.bound))
    (c.add_column-2.ensures ps are i m ∙ ap (λ y. int_wrap w64 (between +ℤ y *ℤ w)) factor)
    ∙ ap (int_wrap w64) (sym (sum_turned cs ss xs c.args.leaving c.args.entering k j c.args.bound c.args.left many r_there c_there at_r at_c left_is))
