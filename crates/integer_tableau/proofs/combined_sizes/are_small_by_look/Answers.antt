use Rattle.std.proofs.Common.{◌≡◌, ℕ, ◌+◌, ◌-◌, ◌<◌, ◌∙◌, List, [], length, ℤ, arith, below_more, get_or, nat_abs, rules, subst, sym, w64, to_z, of_z}
use Rattle.std.proofs.lemmas.Int.{to_z-of_z}
use Rattle.std.proofs.lemmas.List.{get_or_default}
use Rattle.integer_tableau.specs.Combined.{combined_row}
use Rattle.integer_tableau.specs.Numbers.{IsWithin, total_size}
use Rattle.integer_tableau.specs.Range.{size_limit}
use Rattle.integer_tableau.specs.declared.position.Position.TheVariants.{InBasis}
use Rattle.integer_tableau.proofs.combined_sizes.are_small_by_look.Goals as goal
use Rattle.integer_tableau.proofs.combined_sizes.are_small_by_look.Goals.{else-eq-via-then-eq+then-not-is_small_by_bounds+else-not-is_small_by_look, else-eq-via-then-eq+else-not-is_small_by_bounds, else-eq-via-else-eq}

pub is_small_by_look-requires-clause-light : goal.is_small_by_look-requires-clause-light
is_small_by_look-requires-clause-light c =
    let i = c.loop-i.i in
    let row = c.index-program_rows-i in
    subst (λ row. total_size row < size_limit) (sym (row.is ∙ get_or_default c.args.program_rows.now i row.result [] c.loop-i-test.true)) (c.requires.light i c.loop-i-test.true)

pub is_small_by_look-requires-clause-rows_small : goal.is_small_by_look-requires-clause-rows_small
is_small_by_look-requires-clause-rows_small c = λ j l k. omega (arith, c.common_bound.ensures j l k, c.if-common_bound-ge-SIZE_LIMIT.false)

pub loop-i-preserved : goal.loop-i-preserved
loop-i-preserved c = λ j l.
    let a = c.args in
    let i = c.loop-i.i in
    let row = c.index-program_rows-i in
    let combined = λ (row : List ℤ). combined_row (nat_abs (to_z w64 (of_z w64 a.denominator))) a.positions.now a.rows.now row in
    let row_is = row.is ∙ get_or_default a.program_rows.now i row.result [] c.loop-i-test.true in
    below_more (λ (j : ℕ). get_or a.positions.now (length a.rows.now + j) InBasis ≡ InBasis → IsWithin (size_limit - 1) (combined (get_or a.program_rows.now j []))) i c.loop-i.invariant
    (elim c.else-eq.branch [
      | else-eq-via-then-eq+then-not-is_small_by_bounds+else-not-is_small_by_look w ↦
          λ basic. subst (λ row. IsWithin (size_limit - 1) (combined row)) row_is (w.is_small_by_look.ensures w.if-not-is_small_by_look.false)
      | else-eq-via-then-eq+else-not-is_small_by_bounds w ↦
          λ basic. subst (λ row. IsWithin (size_limit - 1) (combined row)) row_is (w.is_small_by_bounds.ensures w.if-not-is_small_by_bounds.false)
      | else-eq-via-else-eq w ↦ λ basic. absurd (search rules)
    ]) j l

pub returns : goal.returns
returns c = λ ok i l basic.
    let a = c.args in
    subst (λ z. IsWithin (size_limit - 1) (combined_row (nat_abs z) a.positions.now a.rows.now (get_or a.program_rows.now i []))) (to_z-of_z w64 a.denominator c.ranges.denominator)
    (c.loop-i.invariant i (omega (arith, l, c.loop-i-test.false)) basic)
