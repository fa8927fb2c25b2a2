-- Lemmas: what adding up gives has parts of 127 bits, and adding a multiple of 0 changes nothing.
use Rattle.std.specs.Prelude.{◌≡◌, pos, Some}
use Rattle.std.specs.Option.{option_and_then}
use Rattle.std.proofs.Common.{ap, ◌∙◌}
use Rattle.fraction.specs.Rational.{ℚ, whole}
use Rattle.fraction.specs.Fits.{FitsFraction}
use Rattle.fraction.specs.Checked.{add_checked, mul_checked}
use Rattle.fraction.specs.Lemmas.Bounds.{was_some}
use Rattle.fraction.specs.Lemmas.Checked.{sum_has_fraction, mul_checked-zero, zero-mul_checked, add_checked-zero}
use Rattle.derivation_book.specs.Sums.{with_product}

pub held_product : (s m a t : ℚ) → with_product s m a ≡ Some t → FitsFraction t
held_product s m a t e = let w = was_some (λ v. add_checked s v) (mul_checked m a) t e in sum_has_fraction s w.0 t w.2

pub with_zero : (s m a : ℚ) → a ≡ whole (pos 0) → FitsFraction s → with_product s m a ≡ Some s
with_zero s m a e h = ap (with_product s m) e ∙ ap (option_and_then (λ v. add_checked s v)) (mul_checked-zero m) ∙ add_checked-zero s h

pub zero_with : (s a : ℚ) → FitsFraction s → with_product s (whole (pos 0)) a ≡ Some s
zero_with s a h = ap (option_and_then (λ v. add_checked s v)) (zero-mul_checked a) ∙ add_checked-zero s h
