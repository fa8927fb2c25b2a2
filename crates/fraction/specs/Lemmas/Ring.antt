-- Sums of products, brought to one form: `simp ring_ℚ` proves an equation of fractions in which nothing cancels.
use Rattle.std.proofs.Common.{◌≡◌, ap, sym, ◌∙◌}
use Rattle.std.specs.Prelude.{pos}
use Rattle.fraction.specs.Rational.{ℚ, ◌+ℚ◌, ◌*ℚ◌, whole}
use Rattle.fraction.specs.Lemmas.Rational.{+ℚ_assoc, +ℚ_comm, *ℚ_assoc, *ℚ_comm, mul-+ℚ, zero-+ℚ, zero-*ℚ}

pub +ℚ_left_comm : (x y z : ℚ) → x +ℚ (y +ℚ z) ≡ y +ℚ (x +ℚ z)
+ℚ_left_comm x y z = sym (+ℚ_assoc x y z) ∙ ap (λ w. w +ℚ z) (+ℚ_comm x y) ∙ +ℚ_assoc y x z

pub *ℚ_left_comm : (x y z : ℚ) → x *ℚ (y *ℚ z) ≡ y *ℚ (x *ℚ z)
*ℚ_left_comm x y z = sym (*ℚ_assoc x y z) ∙ ap (λ w. w *ℚ z) (*ℚ_comm x y) ∙ *ℚ_assoc y x z

pub +ℚ-mul : (a b c : ℚ) → (a +ℚ b) *ℚ c ≡ a *ℚ c +ℚ b *ℚ c
+ℚ-mul a b c = *ℚ_comm _ c ∙ mul-+ℚ c a b ∙ (λ i. *ℚ_comm c a i +ℚ *ℚ_comm c b i)

pub +ℚ-zero : (x : ℚ) → x +ℚ whole (pos 0) ≡ x
+ℚ-zero x = +ℚ_comm x _ ∙ zero-+ℚ x

pub *ℚ-zero : (x : ℚ) → x *ℚ whole (pos 0) ≡ whole (pos 0)
*ℚ-zero x = *ℚ_comm x _ ∙ zero-*ℚ x

pub ruleset ring_ℚ = (mul-+ℚ, +ℚ-mul, *ℚ_assoc, *ℚ_comm, *ℚ_left_comm, +ℚ_assoc, +ℚ_comm, +ℚ_left_comm)
