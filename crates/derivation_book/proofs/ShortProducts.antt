-- Sums with a product more where all numbers are whole and short.
use Rattle.std.specs.Prelude.{◌≡◌, ◌^◌, ◌<◌, ℤ, ◌+ℤ◌, ◌-ℤ◌, ◌*ℤ◌, neg_ℤ, nat_abs, Some}
use Rattle.std.specs.Option.{option_and_then}
use Rattle.std.proofs.Common.{ap, sym, ◌∙◌, subst, arith}
use Rattle.std.proofs.lemmas.Int.{ints}
use Rattle.fraction.specs.Rational.{ℚ, whole, neg_ℚ}
use Rattle.fraction.specs.Checked.{add_checked, sub_checked}
use Rattle.fraction.specs.Lemmas.Rational.{lit_one, neg_ℚ-frac}
use Rattle.derivation_book.specs.Sums.{with_product}
use Rattle.derivation_book.specs.Lemmas.OneDenominator.{add_over, mul_over}

pub whole_added : (t f n : ℚ) (a b c p u : ℤ) → t ≡ whole a → f ≡ whole b → n ≡ whole c → p ≡ b *ℤ c → u ≡ a +ℤ p
    → nat_abs a < 2 ^ 127 → nat_abs p < 2 ^ 127 → nat_abs u < 2 ^ 127 → with_product t f n ≡ Some (whole u)
whole_added t f n a b c p u et ef en ep eu ha hp hu =
    (λ i. with_product (et i) (ef i) (en i))
    ∙ ap (option_and_then (λ v. add_checked (whole a) v)) (mul_over b c 1 lit_one (omega arith) (subst (λ z. nat_abs z < 2 ^ 127) ep hp) ∙ ap (λ z. Some (whole z)) (sym ep))
    ∙ add_over a p 1 lit_one (omega arith) ha hp (subst (λ z. nat_abs z < 2 ^ 127) eu hu)
    ∙ ap (λ z. Some (whole z)) (sym eu)

pub whole_left : (x y : ℚ) (a b z : ℤ) → x ≡ whole a → y ≡ whole b → z ≡ a -ℤ b → nat_abs a < 2 ^ 127 → nat_abs b < 2 ^ 127 → nat_abs z < 2 ^ 127
    → sub_checked x y ≡ Some (whole z)
whole_left x y a b z ex ey ez ha hb hz =
    let same : z ≡ a +ℤ neg_ℤ b = omega (arith, ints, ez) in
    (λ i. add_checked (ex i) (neg_ℚ (ey i)))
    ∙ ap (add_checked (whole a)) (neg_ℚ-frac b 1 lit_one)
    ∙ add_over a (neg_ℤ b) 1 lit_one (omega arith) ha (omega (arith, ints, hb)) (subst (λ n. nat_abs n < 2 ^ 127) same hz)
    ∙ ap (λ n. Some (whole n)) (sym same)
