-- Numbers that are taken so many times.
use Rattle.std.proofs.Common.{◌≡◌, ℕ, ◌<◌, arith, ap, sym, ◌∙◌, Some}
use Rattle.std.specs.Prelude.{ℤ, pos}
use Rattle.std.proofs.Math.Nat.{mul-pos}
use Rattle.fraction.specs.Checked.{mul_checked}
use Rattle.fraction.specs.Lemmas.Bounds.{value_from_mul}
use Rattle.fraction.specs.Lemmas.Rational.{*ℚ_assoc, *ℚ_comm, frac-*ℚ, frac_same, lit_one, one-*ℚ, zero-*ℚ}
use Rattle.fraction.specs.Rational.{ℚ, frac, whole, ◌*ℚ◌}
use Rattle.integer_tableau.specs.Scales.{scaled_by}

one_of : (k : ℕ) → 0 < k → whole (pos k) *ℚ frac (pos 1) k ≡ whole (pos 1)
one_of k o = frac-*ℚ (pos k) (pos 1) 1 k lit_one o ∙ frac_same _ _ _ _ (mul-pos lit_one o) lit_one (ap pos (omega arith))

-- a product that is whole, over its scale
pub scaled_from_product : (x p : ℚ) (k : ℕ) (z : ℤ) → 0 < k → mul_checked x (whole (pos k)) ≡ Some p → whole z ≡ p → scaled_by 1 k (whole z) ≡ x
unfolding scaled_by
scaled_from_product x p k z o e f =
    ap (λ y. y *ℚ frac (pos 1) k) (f ∙ sym (value_from_mul x (whole (pos k)) p e))
    ∙ *ℚ_assoc x (whole (pos k)) (frac (pos 1) k) ∙ ap (λ y. x *ℚ y) (one_of k o) ∙ *ℚ_comm x (whole (pos 1)) ∙ one-*ℚ x

pub zero_scaled : (a b : ℕ) → scaled_by a b (whole (pos 0)) ≡ whole (pos 0)
unfolding scaled_by
zero_scaled a b = zero-*ℚ (frac (pos a) b)
