use Rattle.std.proofs.Common.{◌≡◌, ℕ, ◌+◌, ◌*◌, ◌^◌, ◌<◌, ◌≤◌, nat_abs, ap, arith, subst, w64, ◌∙◌}
use Rattle.std.proofs.Math.Nat.{mul-le-mul}
use Rattle.std.proofs.lemmas.Bool.{ltb-true}
use Rattle.std.proofs.lemmas.Int.{to_z-of_z}
use Rattle.integer_tableau.specs.Range.{size_limit}
use Rattle.integer_tableau.proofs.substitution.is_narrow.Goals as goal

below : (n m a b : ℕ) → n ≡ a → m ≡ b → a < 2 ^ 64 → b < size_limit → n * m ≤ 2 ^ 126
below n m a b e f h k =
    let l : n ≤ 2 ^ 64 = omega arith in
    let r : m ≤ 2 ^ 62 = omega arith in
    mul-le-mul l r

pub overflow_mul-size : goal.overflow_mul-size
overflow_mul-size c =
    let a = c.args in
    record {
      fits = omega (
        arith,
        below c.from.result c.from-2.result a.source_size (nat_abs a.source_factor) c.from.ensures
            (c.from-2.ensures ∙ c.unsigned_abs.ensures.value ∙ ap nat_abs (to_z-of_z w64 a.source_factor c.ranges.source_factor)) c.ranges.source_size.fits c.requires.source_factor_small,
      );
    }

pub overflow_mul-size-2 : goal.overflow_mul-size-2
overflow_mul-size-2 c =
    let a = c.args in
    record {
      fits = omega (
        arith,
        below c.from-3.result c.from-4.result a.row_size (nat_abs a.row_factor) c.from-3.ensures
            (c.from-4.ensures ∙ c.unsigned_abs-2.ensures.value ∙ ap nat_abs (to_z-of_z w64 a.row_factor c.ranges.row_factor)) c.ranges.row_size.fits c.requires.row_factor_small,
      );
    }

pub overflow_add-size : goal.overflow_add-size
overflow_add-size c =
    let a = c.args in
    record {
      fits = omega (
        arith,
        below c.from.result c.from-2.result a.source_size (nat_abs a.source_factor) c.from.ensures
            (c.from-2.ensures ∙ c.unsigned_abs.ensures.value ∙ ap nat_abs (to_z-of_z w64 a.source_factor c.ranges.source_factor)) c.ranges.source_size.fits c.requires.source_factor_small,
        below c.from-3.result c.from-4.result a.row_size (nat_abs a.row_factor) c.from-3.ensures
            (c.from-4.ensures ∙ c.unsigned_abs-2.ensures.value ∙ ap nat_abs (to_z-of_z w64 a.row_factor c.ranges.row_factor)) c.ranges.row_size.fits c.requires.row_factor_small,
      );
    }

pub returns : goal.returns
returns c = λ narrow.
    let a = c.args in
    let s = c.from-2.ensures ∙ c.unsigned_abs.ensures.value ∙ ap nat_abs (to_z-of_z w64 a.source_factor c.ranges.source_factor) in
    let r = c.from-4.ensures ∙ c.unsigned_abs-2.ensures.value ∙ ap nat_abs (to_z-of_z w64 a.row_factor c.ranges.row_factor) in
    subst (λ (n : ℕ). n < size_limit) (λ i. c.from.ensures i * s i + c.from-3.ensures i * r i)
    (subst (λ (m : ℕ). c.from.result * c.from-2.result + c.from-3.result * c.from-4.result < m) c.from-5.ensures (ltb-true _ _ narrow))
