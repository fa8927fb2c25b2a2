-- A multiple of 0, and 0 times a row, are never cramped, and what a multiple gives has parts of 127 bits.
use Rattle.std.proofs.Common.{◌≡◌, refl, ap, ◌∙◌, Option, Some, None}
use Rattle.std.specs.Option.{option_and_then}
use Rattle.fraction.specs.Rational.{ℚ, inv_ℚ}
use Rattle.fraction.specs.Fits.{FitsFraction}
use Rattle.fraction.specs.Checked.{add_checked, mul_checked}
use Rattle.fraction.specs.Lemmas.Bounds.{was_some}
use Rattle.fraction.specs.Lemmas.Checked.{sum_has_fraction, product_has_fraction, mul_checked-zero, zero-mul_checked, add_checked-zero, zero-add_checked, neg-zero}
use Rattle.tableau.specs.Elimination.{zero_ℚ, add_multiple, negative_quotient}

pub multiple_has_fraction : (q t s v : ℚ) → add_multiple q t s ≡ Some v → FitsFraction v
multiple_has_fraction q t s v e = let w = was_some (λ p. add_checked t p) (mul_checked q s) v e in sum_has_fraction t w.0 v w.2

-- of 0
pub add_multiple-zero : (q t : ℚ) → FitsFraction t → add_multiple q t zero_ℚ ≡ Some t
add_multiple-zero q t h = ap (option_and_then (λ p. add_checked t p)) (mul_checked-zero q) ∙ add_checked-zero t h

-- 0 times a number
pub zero-add_multiple : (t s : ℚ) → FitsFraction t → add_multiple zero_ℚ t s ≡ Some t
zero-add_multiple t s h = ap (option_and_then (λ p. add_checked t p)) (zero-mul_checked s) ∙ add_checked-zero t h

-- added to 0
pub add_multiple_to_zero : (q s : ℚ) → add_multiple q zero_ℚ s ≡ mul_checked q s
add_multiple_to_zero q s = at (mul_checked q s) refl
  where
    at : (o : Option ℚ) → mul_checked q s ≡ o → option_and_then (λ p. add_checked zero_ℚ p) o ≡ o
    at None e = refl
    at (Some p) e = zero-add_checked p (product_has_fraction q s p e)

pub negative_quotient-zero : (p : ℚ) → negative_quotient p zero_ℚ ≡ Some zero_ℚ
negative_quotient-zero p = ap (λ x. mul_checked x (inv_ℚ p)) neg-zero ∙ zero-mul_checked (inv_ℚ p)
