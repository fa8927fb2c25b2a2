-- Fractions that are whole numbers.
use Rattle.std.specs.Prelude.{◌≡◌, ◌&&◌, ℤ, pos, ◌+ℤ◌, ◌*ℤ◌, nat_eq, Some}
use Rattle.std.proofs.Common.{sym, ap, ◌∙◌}
use Rattle.std.proofs.lemmas.Bool.{and_parts, eqb-true}
use Rattle.std.proofs.lemmas.Option.{cond_some}
use Rattle.fraction.specs.Rational.{ℚ, frac, whole, ◌+ℚ◌, ◌*ℚ◌}
use Rattle.fraction.specs.Whole.{IsWhole}
use Rattle.fraction.specs.Narrow.{is_narrow, narrow_integer}
use Rattle.fraction.specs.Lemmas.Rational.{lit_one, ℚ_is, frac-+ℚ, frac-*ℚ}

-- some whole number is the fraction
abbrev pub IsAnInteger : ℚ → Type 0
IsAnInteger x = (z : ℤ) × (x ≡ whole z)

pub integer_from_whole : (x : ℚ) → IsWhole x → IsAnInteger x
integer_from_whole x h = (x.num, ℚ_is x ∙ ap (frac x.num) h)

-- the whole number that `narrow_integer` tells is the fraction
pub narrow_integer_is : (x : ℚ) (z : ℤ) → Some z ≡ narrow_integer x → x ≡ whole z
narrow_integer_is x z e =
    let w = cond_some (is_narrow x && nat_eq x.den 1) x.num z (sym e) in
    let one : x.den ≡ 1 = eqb-true x.den 1 (and_parts (is_narrow x) (nat_eq x.den 1) w.0).1 in
    ℚ_is x ∙ ap (frac x.num) one ∙ ap whole w.1

pub whole-+ : (a b : ℤ) → whole a +ℚ whole b ≡ whole (a *ℤ pos 1 +ℤ b *ℤ pos 1)
whole-+ a b = frac-+ℚ a b 1 1 lit_one lit_one

pub whole-* : (a b : ℤ) → whole a *ℚ whole b ≡ whole (a *ℤ b)
whole-* a b = frac-*ℚ a b 1 1 lit_one lit_one

pub integer-+ : (x y : ℚ) → IsAnInteger x → IsAnInteger y → IsAnInteger (x +ℚ y)
integer-+ x y h k = (h.0 *ℤ pos 1 +ℤ k.0 *ℤ pos 1, (λ i. h.1 i +ℚ k.1 i) ∙ whole-+ h.0 k.0)

pub integer-* : (x : ℚ) (z : ℤ) → IsAnInteger x → IsAnInteger (x *ℚ whole z)
integer-* x z h = (h.0 *ℤ z, ap (λ v. v *ℚ whole z) h.1 ∙ whole-* h.0 z)
