use Rattle.std.proofs.Common.{◌<◌, ◌-◌, ◌<ℤ◌, ◌∙◌, ℤ, pos, List, nat_abs, length, refl, sym, subst, w64}
use Rattle.std.proofs.lemmas.Int.{to_z-of_z}
use Rattle.integer_tableau.specs.Numbers.{IsWithin}
use Rattle.integer_tableau.specs.Range.{size_limit}
use Rattle.integer_tableau.proofs.integer_row.IntegerRow.solve.Goals as goal

pub solve_column-requires : goal.solve_column-requires
solve_column-requires c =
    let same = sym (c.deref_mut.ensures.value ∙ c.self.view_is ∙ c.is_small.ensures.same) in
    let back = sym (to_z-of_z w64 c.args.denominator c.ranges.denominator) in
    record {
      column = subst (λ (xs : List ℤ). c.args.column < length xs) same c.requires.column;
      row_small = subst (IsWithin (size_limit - 1)) same (subst (IsWithin (size_limit - 1)) c.is_small.ensures.same (c.if-not-is_small.ensures.small refl));
      denominator_positive = subst (λ (z : ℤ). pos 0 <ℤ z) back c.requires.denominator_positive;
      denominator_small = subst (λ (z : ℤ). nat_abs z < size_limit) back c.requires.denominator_small;
    }
