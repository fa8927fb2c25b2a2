use Rattle.std.proofs.Common.{◌≡◌, ◌-◌, ◌+ℤ◌, ◌*ℤ◌, length, get_or, replicate, pos, rules, ap, subst, ◌∙◌, w64, arith}
use Rattle.std.specs.Int.{int_wrap}
use Rattle.std.proofs.lemmas.Int.{int_wrap-add_same, to_z-of_z}
use Rattle.std.proofs.lemmas.List.{length-replicate}
use Rattle.integer_tableau.proofs.KeptSums.{row_from_kept}
use Rattle.integer_tableau.proofs.Sizes.{written}
use Rattle.integer_tableau.specs.Arena.{basic_sum}
use Rattle.integer_tableau.specs.Numbers.{IsWithin, number_at}
use Rattle.integer_tableau.specs.Range.{size_limit}
use Rattle.integer_tableau.proofs.integer_row.IntegerRow.combine_kept.Goals as goal

pub returns : goal.returns
returns c = λ small ss are there is many within positive.
    let cs = c.args.coefficients.now in
    let vs = c.args.nonbasic.now in
    let js = c.args.basic_columns.now in
    let ns = c.args.rows.now in
    let d = c.args.denominator in
    let items = c.self.inside.numerators.items in
    let old = c.put_nonbasic.new.sums in
    let two = c.deref_mut-2.result.now in
    let new = c.add_basic.new.sums in
    let filled : c.fill.new.self ≡ replicate (length vs) (pos 0) = search rules in
    let one_many = ap length (c.deref_mut.ensures.value ∙ c.self.view_is ∙ filled) ∙ length-replicate (length vs) (pos 0) in
    let two_is = c.deref_mut-2.ensures.value ∙ written old items c.self.inside.numerators.len (c.put_nonbasic.auto.sums ∙ c.deref_mut.ensures.len) in
    let two_many = ap length two_is ∙ c.put_nonbasic.auto.sums ∙ one_many in
    let new_is = c.is_small.ensures.same ∙ written new _ c.self.inside.numerators.len (c.add_basic.auto.sums ∙ c.deref_mut-2.ensures.len) in
    new_is
    ∙ row_from_kept d cs ns new ss vs js are there is many within positive (c.add_basic.auto.sums ∙ two_many) (subst (IsWithin (size_limit - 1)) new_is (c.is_small.ensures.small small))
    (λ k l. c.add_basic.ensures k (omega (arith, l, two_many))
    ∙ int_wrap-add_same w64 (number_at two k) (d *ℤ number_at cs (get_or vs k 0)) (basic_sum (length two) cs ns k 0 js)
    (ap (λ xs. int_wrap w64 (number_at xs k)) two_is ∙ c.put_nonbasic.ensures k (omega (arith, l, one_many))
    ∙ ap (λ z. int_wrap w64 (z *ℤ number_at cs (get_or vs k 0))) (to_z-of_z w64 d c.ranges.denominator))
    ∙ ap (λ n. int_wrap w64 (d *ℤ number_at cs (get_or vs k 0) +ℤ basic_sum n cs ns k 0 js)) two_many)
