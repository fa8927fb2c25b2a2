-- Lemmas: fractions over one denominator. A sum or a product of them is that of the numerators, and isn't cramped where that is small.
use Rattle.std.specs.Prelude.{◌≡◌, ℕ, zero, suc, ◌*◌, ◌/◌, ◌^◌, ◌<◌, ◌≤◌, ℤ, pos, ◌+ℤ◌, ◌*ℤ◌, nat_abs, true, Some}
use Rattle.std.proofs.Common.{ap, ◌∙◌, arith}
use Rattle.std.proofs.lemmas.Int.{ints, unsigned_abs-mul}
use Rattle.std.proofs.Math.Nat.{mul-one, mul-div_cancel', div-mul_cancel, le_of_dvd}
use Prim.Native.Nat.{◌∣◌}
use borrow.Author.Tests.{lt-ltb}
use Rattle.fraction.specs.Gcd.{gcd}
use Rattle.fraction.specs.Rational.{ℚ, whole, frac}
use Rattle.fraction.specs.Checked.{add_fits, add_checked, mul_checked}
use Rattle.fraction.specs.Lemmas.Gcd.{gcd_is, lcm_dvd}
use Rattle.fraction.specs.Lemmas.Integers.{is_diff, diff-pos, diff-mul, diff-same, cancel_ℤ, add-mul_ℤ}
use Rattle.fraction.specs.Lemmas.Rational.{lit_one, frac_is, frac_den, frac_same, frac-+ℚ_over_one, frac-*ℚ}
use Rattle.fraction.specs.Lemmas.Bounds.{add_is, mul_is, mul_fits_small, is_small_from, frac-num_le, small_product}

pub zero_over : (d : ℕ) → 0 < d → whole (pos 0) ≡ frac (pos 0) d
zero_over d o = frac_same (pos 0) (pos 0) 1 d lit_one o (omega (arith, ints))

-- ---- sums
regrouped : (n : ℤ) (b q k : ℕ) → ((n *ℤ pos q) *ℤ pos k) *ℤ pos b ≡ n *ℤ pos (b * q * k)
regrouped n b q k = rw (is_diff n) (simp (diff-pos, diff-mul) (diff-same _ _ _ _ (omega arith)))

cancelled : (n a : ℤ) (b q k d : ℕ) → 0 < b → b * q * k ≡ d → n *ℤ pos d ≡ a *ℤ pos b → (n *ℤ pos q) *ℤ pos k ≡ a
cancelled n a b q k d o e f = cancel_ℤ _ a b o (regrouped n b q k ∙ ap (λ m. n *ℤ pos m) e ∙ f)

size_below : (s z : ℤ) (k : ℕ) → 0 < k → s *ℤ pos k ≡ z → nat_abs s ≤ nat_abs z
size_below s z zero o e = omega arith
size_below s z (suc k) o e = omega (arith, unsigned_abs-mul s (pos (suc k)), ap nat_abs e)

least_common : (b d g q p : ℕ) → q * g ≡ b → p * g ≡ d → d * q ≡ b * p
least_common b d g q p e f = rw (← e, ← f) (omega arith)

factor_positive : (m k n : ℕ) → 0 < n → m * k ≡ n → 0 < k
factor_positive m zero n o e = omega arith
factor_positive m (suc k) n o e = omega arith

sum_fits : (x y : ℚ) (a b : ℤ) (d : ℕ) → 0 < d → d < 2 ^ 127 → nat_abs a < 2 ^ 127 → nat_abs b < 2 ^ 127 → nat_abs (a +ℤ b) < 2 ^ 127
    → x.num *ℤ pos d ≡ a *ℤ pos x.den → y.num *ℤ pos d ≡ b *ℤ pos y.den → x.den ∣ d → y.den ∣ d → add_fits x y ≡ true
unfolding add_fits
sum_fits x y a b d o h k l m e f u v =
    let i = gcd_is x.den y.den in
    let c = lcm_dvd x.den y.den d y.lowest.0 u v in
    let n = d / (x.den * (y.den / gcd x.den y.den)) in
    let en : x.den * (y.den / gcd x.den y.den) * n ≡ d = mul-div_cancel' _ c in
    let on : 0 < n = factor_positive _ n d o en in
    let swapped : y.den * (x.den / gcd x.den y.den) ≡ x.den * (y.den / gcd x.den y.den) =
    least_common x.den y.den (gcd x.den y.den) _ _ (div-mul_cancel _ i.0) (div-mul_cancel _ i.1) in
    let p : (x.num *ℤ pos (y.den / gcd x.den y.den)) *ℤ pos n ≡ a = cancelled x.num a x.den (y.den / gcd x.den y.den) n d x.lowest.0 en e in
    let q : (y.num *ℤ pos (x.den / gcd x.den y.den)) *ℤ pos n ≡ b = cancelled y.num b y.den (x.den / gcd x.den y.den) n d y.lowest.0 (ap (λ m. m * n) swapped ∙ en) f in
    let s : (x.num *ℤ pos (y.den / gcd x.den y.den) +ℤ y.num *ℤ pos (x.den / gcd x.den y.den)) *ℤ pos n ≡ a +ℤ b =
    add-mul_ℤ (x.num *ℤ pos (y.den / gcd x.den y.den)) (y.num *ℤ pos (x.den / gcd x.den y.den)) (pos n) ∙ (λ i. p i +ℤ q i) in
    rw (
      is_small_from _ (let w : nat_abs (x.num *ℤ pos (y.den / gcd x.den y.den)) < 2 ^ 127 = omega (arith, size_below _ a n on p, k) in w),
      is_small_from _ (let w : nat_abs (y.num *ℤ pos (x.den / gcd x.den y.den)) < 2 ^ 127 = omega (arith, size_below _ b n on q, l) in w),
      is_small_from _ (let w : nat_abs (x.num *ℤ pos (y.den / gcd x.den y.den) +ℤ y.num *ℤ pos (x.den / gcd x.den y.den)) < 2 ^ 127 = omega (arith, size_below _ (a +ℤ b) n on s, m) in w),
    )
    (lt-ltb _ _ (let w : x.den * (y.den / gcd x.den y.den) < 2 ^ 127 = omega (arith, le_of_dvd o c, h) in w))

pub add_over : (a b : ℤ) (d : ℕ) → 0 < d → d < 2 ^ 127 → nat_abs a < 2 ^ 127 → nat_abs b < 2 ^ 127 → nat_abs (a +ℤ b) < 2 ^ 127
    → add_checked (frac a d) (frac b d) ≡ Some (frac (a +ℤ b) d)
add_over a b d o h k l m =
    add_is (frac a d) (frac b d) (sum_fits (frac a d) (frac b d) a b d o h k l m (frac_is a d o) (frac_is b d o) (frac_den a d o) (frac_den b d o))
    ∙ ap Some (frac-+ℚ_over_one a b d o)

-- ---- products

pub mul_over : (z x : ℤ) (d : ℕ) → 0 < d → d < 2 ^ 127 → nat_abs (z *ℤ x) < 2 ^ 127 → mul_checked (frac z d) (whole x) ≡ Some (frac (z *ℤ x) d)
mul_over z x d o h k =
    mul_is _ _ (mul_fits_small (frac z d) (whole x)
    (small_product _ _ _ _ (frac-num_le z d o) (frac-num_le x 1 lit_one) (let w : nat_abs z * nat_abs x < 2 ^ 127 = omega (arith, k, unsigned_abs-mul z x) in w))
    (small_product _ _ d 1 (le_of_dvd o (frac_den z d o)) (le_of_dvd lit_one (frac_den x 1 lit_one)) (omega (arith, h))))
    ∙ ap Some (frac-*ℚ z x d 1 o lit_one ∙ ap (frac (z *ℤ x)) (mul-one d))

pub times_over : (x z : ℤ) (d : ℕ) → 0 < d → d < 2 ^ 127 → nat_abs (x *ℤ z) < 2 ^ 127 → mul_checked (whole x) (frac z d) ≡ Some (frac (x *ℤ z) d)
times_over x z d o h k =
    mul_is _ _ (mul_fits_small (whole x) (frac z d)
    (small_product _ _ _ _ (frac-num_le x 1 lit_one) (frac-num_le z d o) (let w : nat_abs x * nat_abs z < 2 ^ 127 = omega (arith, k, unsigned_abs-mul x z) in w))
    (small_product _ _ 1 d (le_of_dvd lit_one (frac_den x 1 lit_one)) (le_of_dvd o (frac_den z d o)) (omega (arith, h))))
    ∙ ap Some (frac-*ℚ x z 1 d lit_one o ∙ ap (frac (x *ℤ z)) (let e : 1 * d ≡ d = omega arith in e))
