use Rattle.std.proofs.Common.{◌≡◌, ◌-◌, length, replicate, nat_abs, pos, rules, ap, subst, ◌∙◌, w64, arith}
use Rattle.std.specs.Int.{int_wrap}
use Rattle.std.proofs.lemmas.Int.{to_z-of_z}
use Rattle.std.proofs.lemmas.List.{length-replicate}
use Rattle.integer_tableau.proofs.LowSums.{row_from_low_numbers}
use Rattle.integer_tableau.proofs.Sizes.{written}
use Rattle.integer_tableau.specs.Combined.{combined}
use Rattle.integer_tableau.specs.Numbers.{IsWithin}
use Rattle.integer_tableau.specs.Range.{size_limit}
use Rattle.integer_tableau.proofs.integer_row.IntegerRow.combine_small.Goals as goal

pub returns-then-is_full : goal.returns-then-is_full
returns-then-is_full c = λ ok.
    let filled : c.fill.new.self ≡ replicate (length c.args.rows.now) (pos 0) = search rules in
    let d = to_z-of_z w64 c.args.denominator c.ranges.denominator in
    let is = c.is_small.ensures.same ∙ written c.add_columns-is_full.new.sums c.self.inside.numerators.items c.self.inside.numerators.len (c.add_columns-is_full.auto.sums ∙ c.deref_mut.ensures.len) in
    is
    ∙ row_from_low_numbers (nat_abs c.args.denominator) c.args.coefficients.now c.args.positions.now c.args.rows.now c.add_columns-is_full.new.sums
    (c.add_columns-is_full.auto.sums ∙ ap length (c.deref_mut.ensures.value ∙ c.self.view_is ∙ filled) ∙ length-replicate (length c.args.rows.now) (pos 0))
    (subst (IsWithin (size_limit - 1)) is (c.is_small.ensures.small ok)) c.requires.small
    (λ k l. c.add_columns-is_full.ensures c.if-is_full.true k (omega (arith, l, c.add_columns-is_full.auto.sums))
    ∙ (λ i. int_wrap w64 (combined (nat_abs (d i)) c.args.coefficients.now c.args.positions.now c.args.rows.now k)))
