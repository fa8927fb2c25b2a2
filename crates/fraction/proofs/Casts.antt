-- Numbers that were passed as bits, and what code computes of them.
use Rattle.std.proofs.Common.{◌≡◌, ℕ, ◌<◌, ◌/◌, ℤ, pos, ap, ◌∙◌}
use Rattle.std.specs.Prelude.{nat_abs, int_div}
use Rattle.fraction.specs.Gcd.{gcd}
use Rattle.fraction.specs.Rational.{signed_as, frac}
use Rattle.fraction.specs.Lemmas.Rational.{inv_lowest, frac-reduced}
use Rattle.fraction.specs.Lowest.{IsLowest}
use Rattle.fraction.specs.Lemmas.Lowest.{lowest_after}

module _ (z y x q p : ℤ) (d a g e : ℕ) (ey : y ≡ z) (ea : a ≡ nat_abs y) (eg : g ≡ gcd a d) (ex : x ≡ z) (eq : q ≡ int_div x (pos g)) (ep : p ≡ q) (ee : e ≡ d / g) where
  divisor : g ≡ gcd (nat_abs z) d
  divisor = eg ∙ ap (λ a. gcd a d) (ea ∙ ap nat_abs ey)

  num : p ≡ int_div z (pos (gcd (nat_abs z) d))
  num = ep ∙ eq ∙ (λ i. int_div (ex i) (pos (divisor i)))

  pub reduced_lowest : 0 < d → IsLowest p e
  reduced_lowest h = rw (ee, num, divisor) (lowest_after z d h)

  pub reduced_is : 0 < d → frac p e ≡ frac z d
  reduced_is h = rw (ee, num, divisor) (frac-reduced z d h)

module _ (z y s t : ℤ) (d a : ℕ) (ey : y ≡ z) (es : s ≡ signed_as y d) (et : t ≡ s) (ea : a ≡ nat_abs y) where
  upper : t ≡ signed_as z d
  upper = et ∙ es ∙ ap (λ z. signed_as z d) ey

  lower : a ≡ nat_abs z
  lower = ea ∙ ap nat_abs ey

  pub inverse_lowest : 0 < nat_abs z → gcd (nat_abs z) d ≡ 1 → IsLowest t a
  inverse_lowest h e = rw (upper, lower) (inv_lowest z d h e)

  pub inverse_is : frac t a ≡ frac (signed_as z d) (nat_abs z)
  inverse_is = λ i. frac (upper i) (lower i)
