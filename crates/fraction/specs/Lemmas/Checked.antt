-- Lemmas: an operation with 0 is never cramped, and what an operation gives has parts of 127 bits.
use Rattle.std.specs.Prelude.{ℤ, pos, ◌*ℤ◌, int_div, nat_abs, nat_lt, neg_ℤ, ◌&&◌}
use Rattle.std.specs.Ordering.{int_eq}
use Rattle.std.proofs.Common.{◌≡◌, ℕ, zero, suc, ◌*◌, ◌/◌, ◌^◌, ◌<◌, arith, refl, ap, ◌∙◌, subst, true, Some}
use Rattle.std.proofs.lemmas.Int.{unsigned_abs-mul}
use Rattle.std.proofs.lemmas.Bool.{and_parts, ltb-true}
use Rattle.std.proofs.lemmas.Bool.Decides.{Decides-int_eq}
use Rattle.std.proofs.lemmas.Option.{cond_some}
use Rattle.std.proofs.lemmas.Nat.Gcd.{dvd_refl}
use Rattle.std.proofs.Math.Nat.{div-le_self, div_self, one-dvd}
use Rattle.fraction.specs.Gcd.{gcd}
use Rattle.fraction.specs.Rational.{ℚ, whole, frac, neg_ℚ}
use Rattle.fraction.specs.Bounds.{Within}
use Rattle.fraction.specs.Fits.{FitsFraction}
use Rattle.fraction.specs.Checked.{add_fits, mul_fits, add_checked, mul_checked, is_small}
use Rattle.fraction.specs.Lemmas.Gcd.{gcd-zero, gcd-one, gcd_comm}
use Rattle.fraction.specs.Lemmas.Rational.{zero-*ℚ, zero-+ℚ, quotient_is_small, +ℚ_over, *ℚ_over}
use Rattle.fraction.specs.Lemmas.Ring.{+ℚ-zero, *ℚ-zero}
use Rattle.fraction.specs.Lemmas.Order.{zero_from_num}
use Rattle.fraction.specs.Lemmas.Bounds.{mul_is, add_is, is_small_from, add_fits_within, whole_parts}

-- ---- 127 bits
frac_fits : (z : ℤ) (d : ℕ) → nat_abs z < 2 ^ 127 → d < 2 ^ 127 → FitsFraction (frac z d)
unfolding frac
frac_fits z zero h k = (omega arith, omega arith)
frac_fits z (suc n) h k =
    let g = gcd (nat_abs z) (suc n) in
    (quotient_is_small z g (2 ^ 127) h, omega (arith, k, div-le_self (suc n) g))

pub sum_has_fraction : (x y z : ℚ) → add_checked x y ≡ Some z → FitsFraction z
unfolding add_checked add_fits
sum_has_fraction x y z e =
    let s = cond_some _ _ _ e in
    let b = and_parts _ _ s.0 in
    let c = and_parts _ _ b.0 in
    subst FitsFraction (+ℚ_over x y ∙ s.1) (frac_fits _ _ (ltb-true _ _ c.1) (ltb-true _ _ b.1))

pub product_has_fraction : (x y p : ℚ) → mul_checked x y ≡ Some p → FitsFraction p
unfolding mul_checked mul_fits
product_has_fraction x y p e =
    let s = cond_some _ _ _ e in
    let b = and_parts _ _ s.0 in
    subst FitsFraction (*ℚ_over x y ∙ s.1) (frac_fits _ _ (ltb-true _ _ b.0) (ltb-true _ _ b.1))

pub zero_has_fraction : FitsFraction (whole (pos 0))
zero_has_fraction = frac_fits (pos 0) 1 (omega arith) (omega arith)

-- ---- products and sums with 0
own_gcd : (b : ℕ) → gcd 0 b ≡ b
own_gcd b = gcd_comm 0 b ∙ gcd-zero b

parts_fit : (z y : ℤ) (b d : ℕ) → y ≡ pos 0 → d ≡ 1 → 0 < b
    → (is_small (int_div z (pos (gcd (nat_abs z) d)) *ℤ int_div y (pos (gcd (nat_abs y) b))) && nat_lt (b / gcd (nat_abs y) b * (d / gcd (nat_abs z) d)) (2 ^ 127)) ≡ true
parts_fit z y b d p q o = rw (p, q) (rw (is_small_from _ (size z b), quotients b (nat_abs z) o) refl)
  where
    size : (z : ℤ) (b : ℕ) → nat_abs (int_div z (pos (gcd (nat_abs z) 1)) *ℤ int_div (pos 0) (pos (gcd 0 b))) < 2 ^ 127
    size z b =
        let e : 0 / gcd 0 b ≡ 0 = omega (arith, div-le_self 0 (gcd 0 b)) in
        rw (unsigned_abs-mul (int_div z (pos (gcd (nat_abs z) 1))) (int_div (pos 0) (pos (gcd 0 b)))) (rw e (omega arith))

    quotients : (b n : ℕ) → 0 < b → b / gcd 0 b * (1 / gcd n 1) ≡ 1
    quotients b n o = let e : b / b ≡ 1 = div_self o in rw (own_gcd b, gcd-one n) (rw e refl)

left_parts_fit : (z y : ℤ) (b d : ℕ) → z ≡ pos 0 → b ≡ 1 → 0 < d
    → (is_small (int_div z (pos (gcd (nat_abs z) d)) *ℤ int_div y (pos (gcd (nat_abs y) b))) && nat_lt (b / gcd (nat_abs y) b * (d / gcd (nat_abs z) d)) (2 ^ 127)) ≡ true
left_parts_fit z y b d p q o = rw (p, q) (rw (is_small_from _ (size y d), quotients d (nat_abs y) o) refl)
  where
    size : (y : ℤ) (d : ℕ) → nat_abs (int_div (pos 0) (pos (gcd 0 d)) *ℤ int_div y (pos (gcd (nat_abs y) 1))) < 2 ^ 127
    size y d =
        let e : 0 / gcd 0 d ≡ 0 = omega (arith, div-le_self 0 (gcd 0 d)) in
        rw (unsigned_abs-mul (int_div (pos 0) (pos (gcd 0 d))) (int_div y (pos (gcd (nat_abs y) 1)))) (rw e (omega arith))

    quotients : (d n : ℕ) → 0 < d → 1 / gcd n 1 * (d / gcd 0 d) ≡ 1
    quotients d n o = let e : d / d ≡ 1 = div_self o in rw (own_gcd d, gcd-one n) (rw e refl)

pub mul_checked-zero : (m : ℚ) → mul_checked m (whole (pos 0)) ≡ Some (whole (pos 0))
unfolding mul_fits
mul_checked-zero m = let w = whole_parts (pos 0) in mul_is m (whole (pos 0)) (parts_fit m.num (whole (pos 0)).num m.den (whole (pos 0)).den w.0 w.1 m.lowest.0) ∙ ap Some (*ℚ-zero m)

pub zero-mul_checked : (m : ℚ) → mul_checked (whole (pos 0)) m ≡ Some (whole (pos 0))
unfolding mul_fits
zero-mul_checked m = let w = whole_parts (pos 0) in mul_is (whole (pos 0)) m (left_parts_fit (whole (pos 0)).num m.num (whole (pos 0)).den m.den w.0 w.1 m.lowest.0) ∙ ap Some (zero-*ℚ m)

zero_within : (n : ℕ) → Within n 0 (whole (pos 0))
zero_within n = let w = whole_parts (pos 0) in record { divides = rw w.1 (one-dvd n); size = rw w.0 (omega arith) }

own_within : (s : ℚ) → Within s.den (nat_abs s.num) s
own_within s = record { divides = dvd_refl s.den; size = omega arith }

pub add_checked-zero : (s : ℚ) → FitsFraction s → add_checked s (whole (pos 0)) ≡ Some s
add_checked-zero s h =
    add_is s (whole (pos 0)) (add_fits_within s (whole (pos 0)) s.den (nat_abs s.num) 0 s.lowest.0 h.1 (omega (arith, h.0)) (own_within s) (zero_within s.den)) ∙ ap Some (+ℚ-zero s)

pub zero-add_checked : (s : ℚ) → FitsFraction s → add_checked (whole (pos 0)) s ≡ Some s
zero-add_checked s h =
    add_is (whole (pos 0)) s (add_fits_within (whole (pos 0)) s s.den 0 (nat_abs s.num) s.lowest.0 h.1 (omega (arith, h.0)) (zero_within s.den) (own_within s)) ∙ ap Some (zero-+ℚ s)

-- ---- tests for 0
pub num_zero : (z : ℤ) → int_eq z (pos 0) ≡ true → z ≡ pos 0
num_zero z e = (Decides-int_eq z (pos 0)).0 e

pub zero_from_test : (t : ℚ) → int_eq t.num (pos 0) ≡ true → t ≡ (whole (pos 0))
zero_from_test t e = zero_from_num t (num_zero t.num e)

pub zero_test : int_eq (whole (pos 0)).num (pos 0) ≡ true
zero_test = ap (λ z. int_eq z (pos 0)) (whole_parts (pos 0)).0

pub neg-zero : neg_ℚ (whole (pos 0)) ≡ (whole (pos 0))
unfolding neg_ℚ
neg-zero = λ i. frac (neg_ℤ ((whole_parts (pos 0)).0 i)) ((whole_parts (pos 0)).1 i)
