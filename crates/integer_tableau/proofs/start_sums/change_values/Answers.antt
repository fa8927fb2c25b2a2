use Rattle.std.proofs.Common.{◌≡◌, ◌<◌, ◌+ℤ◌, ◌-ℤ◌, ◌*ℤ◌, [], ◌∙◌, get_or, ap, arith, length, pos, rules, sym, w64, to_z, of_z}
use Rattle.std.specs.Int.{int_wrap}
use mir.Val.{SFits}
use Rattle.std.proofs.lemmas.Int.{to_z-of_z, wrapping_sub_is}
use Rattle.integer_tableau.proofs.Lists.{each_more}
use Rattle.integer_tableau.proofs.StartSums.{column_changed}
use Rattle.integer_tableau.specs.Numbers.{number_at}
use Rattle.integer_tableau.proofs.start_sums.change_values.Goals as goal

pub loop-column-preserved : goal.loop-column-preserved
loop-column-preserved c =
    let n = c.loop-column.column in
    let xs = c.args.nonbasic_values.now in
    let vs = c.loop-column.values in
    let x = to_z w64 (of_z w64 (number_at xs n)) in
    let f : SFits w64 (number_at xs n) = search rules in
    let g : SFits w64 (number_at vs n) = search rules in
    record {
      values = each_more (λ j a b. b ≡ number_at xs j) (pos 0) c.args.values.now vs n x (omega arith) c.loop-column.invariant.values (to_z-of_z w64 (number_at xs n) f);
      sums = λ ps are hold i l.
          let cs = get_or ps i [] in
          let m : i < length c.loop-column.sums = omega (arith, l, c.add_column.auto.row_sums) in
          let there : i < length ps = omega (arith, m, c.loop-column.auto.sums, c.requires.sums_there, are.as_many) in
          let full : length cs ≡ length c.args.values.now = omega (arith, are.full i there, c.requires.values_there) in
          column_changed cs vs n x (number_at c.loop-column.sums i) (number_at c.add_column.new.row_sums i) (omega (arith, full, c.loop-column.auto.values)) (omega (arith, full, c.loop-column-test.true))
          (c.loop-column.invariant.sums ps are hold i m) (c.add_column.ensures ps are i m ∙ ap (λ z. int_wrap w64 (number_at c.loop-column.sums i +ℤ z *ℤ number_at cs n))
          (wrapping_sub_is w64 (number_at xs n) (number_at vs n) f g ∙ ap (λ z. int_wrap w64 (z -ℤ number_at vs n)) (sym (to_z-of_z w64 (number_at xs n) f))));
    }
