-- Quotients by the greatest common divisor are in lowest terms.
use Rattle.std.proofs.Common.{◌≡◌, ℕ, zero, suc, ◌*◌, ◌/◌, ◌<◌, arith, refl, ap}
use Rattle.std.specs.Prelude.{ℤ, pos, negsuc, neg_ℤ, int_div, nat_abs}
use Rattle.std.proofs.Math.Nat.{pos_of_ne-zero, div-mul_cancel}
use Prim.Native.Nat.{◌∣◌}
use Rattle.fraction.specs.Gcd.{gcd_within, gcd}
use Rattle.fraction.specs.Lemmas.Gcd.{gcd_is, gcd_pos, gcd-quotients}
use Rattle.fraction.specs.Lowest.{IsLowest}

pub abs_neg : (n : ℕ) → nat_abs (neg_ℤ (pos n)) ≡ n
abs_neg zero = refl
abs_neg (suc n) = refl

pub abs-div : (z : ℤ) (g : ℕ) → nat_abs (int_div z (pos g)) ≡ nat_abs z / g
abs-div (pos a) g = refl
abs-div (negsuc a) g = abs_neg (suc a / g)

pub lowest_after : (z : ℤ) (d : ℕ) → 0 < d → IsLowest (int_div z (pos (gcd (nat_abs z) d))) (d / gcd (nat_abs z) d)
lowest_after z d h =
    let g = gcd (nat_abs z) d in
    let i = (gcd_is (nat_abs z) d).1 in
    (positive d g h i (gcd_pos (nat_abs z) d h), rw (abs-div z g) (gcd-quotients (nat_abs z) d h))
  where
    positive : (d g : ℕ) → 0 < d → g ∣ d → 0 < g → 0 < d / g
    positive d g h i p = pos_of_ne-zero (λ e. omega (arith, h, div-mul_cancel g i, ap (λ n. n * g) e))

pub lowest_zero : IsLowest (pos 0) 1
unfolding gcd gcd_within
lowest_zero = (omega arith, refl)
