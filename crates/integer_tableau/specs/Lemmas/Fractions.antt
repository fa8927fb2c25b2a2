-- One coefficient of a pivot on whole numbers: which fraction it is, and that nothing on the way to it is cramped.
use Rattle.std.proofs.Common.{◌≡◌, ℕ, zero, suc, ◌+◌, ◌-◌, ◌*◌, ◌^◌, ◌≤◌, ◌<◌, arith, refl, ap, sym, ◌∙◌, subst, Bool, true, false, Some, []}
use Rattle.std.specs.Prelude.{ℤ, pos, negsuc, neg_ℤ, ◌+ℤ◌, ◌*ℤ◌, nat_abs}
use Rattle.std.proofs.lemmas.Int.{ints, unsigned_abs-mul}
use Rattle.std.proofs.lemmas.List.{get_or_past}
use Rattle.std.proofs.Math.Nat.{mul-one, mul-le-mul, mul-pos, le_of_dvd, dvd_trans, dvd-mul_right}
use Rattle.std.specs.Option.{option_and_then}
use Rattle.std.specs.Ordering.{int_eq}
use Rattle.std.proofs.lemmas.Bool.Decides.{Decides-int_eq}
use Rattle.fraction.specs.Bounds.{Within}
use Rattle.fraction.specs.Checked.{add_checked, mul_checked}
use Rattle.fraction.specs.Lemmas.Bounds.{add_fits_within, add_is, mul_fits_small, mul_is, frac-num_le, small_product}
use Rattle.fraction.specs.Lemmas.Integers.{diff-add, diff-mul, diff-neg, diff-pos, diff-same, is_diff, neg-mul_ℤ, abs-neg}
use Rattle.fraction.specs.Lemmas.Rational.{frac-*ℚ, frac-+ℚ, frac_den, frac_is, frac_same, lit_one, neg_ℚ-frac, abs-signed}
use Rattle.fraction.specs.Rational.{frac, inv_ℚ, signed_as, whole}
use Rattle.integer_tableau.specs.Substitution.{quotient_numerator}
use Rattle.tableau.specs.Elimination.{add_multiple, entry, negative_quotient, zero_ℚ}
use Rattle.integer_tableau.specs.Small.{IsOver}

-- a numerator of 64 bits, or a denominator
abbrev pub IsNarrow : ℤ → Type 0
IsNarrow z = nat_abs z < 2 ^ 63

-- ---- the parts of a fraction

pub frac-den_le : (z : ℤ) (d : ℕ) → 0 < d → (frac z d).den ≤ d
frac-den_le z d o = le_of_dvd o (frac_den z d o)

pub frac-size : (z : ℤ) (d : ℕ) → 0 < d → nat_abs (frac z d).num * d ≡ nat_abs z * (frac z d).den
frac-size z d o = sym (unsigned_abs-mul (frac z d).num (pos d)) ∙ ap nat_abs (frac_is z d o) ∙ unsigned_abs-mul z (pos (frac z d).den)

pub Within-frac : (z : ℤ) (d k : ℕ) → 0 < d → Within (d * k) (nat_abs z * k) (frac z d)
Within-frac z d k o = record {
  divides = dvd_trans _ (frac_den z d o) (dvd-mul_right d k);
  size = sized (nat_abs (frac z d).num) (nat_abs z) (frac z d).den d k (frac-size z d o);
}
  where
    sized : (m a e d k : ℕ) → m * d ≡ a * e → m * (d * k) ≤ a * k * e
    sized m a e d k h = omega (arith, ap (λ n. n * k) h)

-- ---- products and sums over denominators that are given

pub mul_frac : (a b : ℤ) (c d : ℕ) → 0 < c → 0 < d → nat_abs a * nat_abs b < 2 ^ 127 → c * d < 2 ^ 127
    → mul_checked (frac a c) (frac b d) ≡ Some (frac (a *ℤ b) (c * d))
mul_frac a b c d p q h k =
    mul_is _ _ (mul_fits_small (frac a c) (frac b d)
    (small_product _ _ _ _ (frac-num_le a c p) (frac-num_le b d q) h)
    (small_product _ _ _ _ (frac-den_le a c p) (frac-den_le b d q) k))
    ∙ ap Some (frac-*ℚ a b c d p q)

sum_fraction : (a b : ℤ) (c k : ℕ) → (a *ℤ pos (c * k) +ℤ b *ℤ pos c) *ℤ pos (c * k) ≡ (a *ℤ pos k +ℤ b) *ℤ pos (c * (c * k))
sum_fraction a b c k = rw (is_diff a, is_diff b) (simp (diff-pos, diff-mul, diff-add) (diff-same _ _ _ _ (omega arith)))

pub add_frac : (a b : ℤ) (c k : ℕ) → 0 < c → 0 < k → c * k < 2 ^ 127 → nat_abs a * k + nat_abs b < 2 ^ 127
    → add_checked (frac a c) (frac b (c * k)) ≡ Some (frac (a *ℤ pos k +ℤ b) (c * k))
add_frac a b c k p q h s =
    let o : 0 < c * k = mul-pos p q in
    add_is _ _ (add_fits_within (frac a c) (frac b (c * k)) (c * k) (nat_abs a * k) (nat_abs b) o h s (Within-frac a c k p)
    (subst (λ m. Within m (nat_abs b) (frac b (c * k))) (mul-one (c * k)) (subst (λ m. Within (c * k * 1) m (frac b (c * k))) (mul-one (nat_abs b)) (Within-frac b (c * k) 1 o))))
    ∙ ap Some (frac-+ℚ a b c (c * k) p o ∙ frac_same _ _ _ _ (mul-pos p o) o (sum_fraction a b c k))

-- ---- a coefficient of another row
pub below : (m n : ℕ) → m < 2 ^ 63 → n < 2 ^ 63 → m * n < 2 ^ 126
below m n h k = let p : m ≤ 2 ^ 63 - 1 = omega arith in let q : n ≤ 2 ^ 63 - 1 = omega arith in omega (arith, mul-le-mul p q)

over_new : (z t : ℤ) (d e : ℕ) → t *ℤ pos d ≡ z → z *ℤ pos e ≡ t *ℤ pos (d * e)
over_new z t d e h = rw (← h) (rw (is_diff t) (simp (diff-pos, diff-mul) (diff-same _ _ _ _ (omega arith))))

-- where the division is exact, the whole number over the new denominator is the sum, and it is not cramped
pub add_multiple_exact : (q a s t : ℤ) (d e : ℕ) → 0 < d → 0 < e → d < 2 ^ 63 → e < 2 ^ 63 → IsNarrow q → IsNarrow a → IsNarrow s
    → t *ℤ pos d ≡ a *ℤ pos e +ℤ q *ℤ s → add_multiple (frac q d) (frac a d) (frac s e) ≡ Some (frac t e)
add_multiple_exact q a s t d e p o hd he hq ha hs h =
    let b = below d e hd he in
    let c = below (nat_abs q) (nat_abs s) hq hs in
    let f = below (nat_abs a) e ha he in
    let n : nat_abs (q *ℤ s) ≡ nat_abs q * nat_abs s = unsigned_abs-mul q s in
    ap (option_and_then (λ x. add_checked (frac a d) x)) (mul_frac q s d e p o (omega arith) (omega arith))
    ∙ add_frac a (q *ℤ s) d e p o (omega arith) (omega arith)
    ∙ ap Some (frac_same _ _ _ _ (mul-pos p o) o (over_new _ t d e h))

-- ---- a coefficient of the solved row

signs : (x b : ℤ) (d e : ℕ) → 0 < d → 0 < e → 0 < nat_abs x → 0 < nat_abs b → x *ℤ pos d ≡ b *ℤ pos e → signed_as x e *ℤ pos (nat_abs b) ≡ signed_as b d *ℤ pos (nat_abs x)
signs (pos x) (pos b) d e o p l m h = omega (arith, ints)
signs (pos x) (negsuc b) d e o p l m h = absurd (omega (arith, ints, mul-pos m p, mul-pos l o))
signs (negsuc x) (pos b) d e o p l m h = absurd (omega (arith, ints, mul-pos m p, mul-pos l o))
signs (negsuc x) (negsuc b) d e o p l m h =
    neg-mul_ℤ (pos e) (pos (suc b)) ∙ ap neg_ℤ (same x b d e (sym (unsigned_abs-mul (negsuc x) (pos d)) ∙ ap nat_abs h ∙ unsigned_abs-mul (negsuc b) (pos e))) ∙ sym (neg-mul_ℤ (pos d) (pos (suc x)))
  where
    same : (x b d e : ℕ) → suc x * d ≡ suc b * e → pos e *ℤ pos (suc b) ≡ pos d *ℤ pos (suc x)
    same x b d e h = ap pos (omega (arith, h))

num_positive : (m a d e : ℕ) → 0 < a → 0 < e → m * d ≡ a * e → 0 < m
num_positive zero a d e p q h = absurd (omega (arith, mul-pos p q))
num_positive (suc m) a d e p q h = omega arith

pub inv-frac : (b : ℤ) (d : ℕ) → 0 < d → 0 < nat_abs b → inv_ℚ (frac b d) ≡ frac (signed_as b d) (nat_abs b)
unfolding inv_ℚ
inv-frac b d o p =
    let q = num_positive (nat_abs (frac b d).num) (nat_abs b) d (frac b d).den p (frac b d).lowest.0 (frac-size b d o) in
    frac_same _ _ _ _ q p (signs (frac b d).num b d (frac b d).den o (frac b d).lowest.0 q p (frac_is b d o))

quotient_neg : (a : ℤ) (d m : ℕ) → (neg_ℤ a *ℤ neg_ℤ (pos d)) *ℤ pos m ≡ a *ℤ pos (d * m)
quotient_neg a d m = ap (λ z. (neg_ℤ a *ℤ z) *ℤ pos m) (ap neg_ℤ (diff-pos d) ∙ diff-neg d 0) ∙ rw (is_diff a) (simp (diff-pos, diff-mul, diff-neg) (diff-same _ _ _ _ (omega arith)))

quotient_over : (b a : ℤ) (d : ℕ) → (neg_ℤ a *ℤ signed_as b d) *ℤ pos (nat_abs b) ≡ quotient_numerator b a *ℤ pos (d * nat_abs b)
quotient_over (pos b) a d = rw (is_diff a) (simp (diff-pos, diff-mul, diff-neg) (diff-same _ _ _ _ (omega arith)))
quotient_over (negsuc b) a d = quotient_neg a d (suc b)

pub negative_quotient_exact : (b a : ℤ) (d : ℕ) → 0 < d → d < 2 ^ 63 → 0 < nat_abs b → IsNarrow b → IsNarrow a
    → negative_quotient (frac b d) (frac a d) ≡ Some (frac (quotient_numerator b a) (nat_abs b))
negative_quotient_exact b a d o hd p hb ha =
    (λ i. mul_checked (neg_ℚ-frac a d o i) (inv-frac b d o p i))
    ∙ mul_frac (neg_ℤ a) (signed_as b d) d (nat_abs b) o p
    (rw (abs-neg a, abs-signed b d) (omega (arith, below (nat_abs a) d ha hd))) (omega (arith, below d (nat_abs b) hd hb))
    ∙ ap Some (frac_same _ _ _ _ (mul-pos o p) p (quotient_over b a d))

-- the number -1, over any denominator
pub less_over : (d : ℕ) → 0 < d → frac (neg_ℤ (pos d)) d ≡ whole (negsuc 0)
less_over d o = frac_same _ _ _ _ o lit_one (omega (arith, ints))

-- and 0
pub zero_over : (d : ℕ) → 0 < d → frac (pos 0) d ≡ whole (pos 0)
zero_over d o = frac_same _ _ _ _ o lit_one (omega (arith, ints))

not_zero : (z : ℤ) → 0 < nat_abs z → int_eq z (pos 0) ≡ false
not_zero z h = step (int_eq z (pos 0)) refl
  where
    step : (b : Bool) → int_eq z (pos 0) ≡ b → int_eq z (pos 0) ≡ false
    step true e = absurd (omega (arith, h, ap nat_abs ((Decides-int_eq z (pos 0)).0 e)))
    step false e = e

-- a fraction is not 0 where its numerator is not
pub frac-nonzero : (b : ℤ) (d : ℕ) → 0 < d → 0 < nat_abs b → 0 < nat_abs (frac b d).num
frac-nonzero b d o p = num_positive (nat_abs (frac b d).num) (nat_abs b) d (frac b d).den p (frac b d).lowest.0 (frac-size b d o)

pub frac-num_positive : (b : ℤ) (d : ℕ) → 0 < d → 0 < nat_abs b → int_eq (frac b d).num (pos 0) ≡ false
frac-num_positive b d o p = not_zero (frac b d).num (frac-nonzero b d o p)

pub abs-negative_quotient : (p a : ℤ) → nat_abs (quotient_numerator p a) ≡ nat_abs a
abs-negative_quotient (pos p) a = abs-neg a
abs-negative_quotient (negsuc p) a = refl

pub zero_is_over : (d k : ℕ) → 0 < d → IsOver d k zero_ℚ
zero_is_over d k o = record { numerator = pos 0; small = omega arith; exact = sym (zero_over d o) }

-- so is what stands past the end of a row
pub none_over : (d k j : ℕ) → 0 < d → IsOver d k (entry [] j)
none_over d k j o = subst (IsOver d k) (sym (get_or_past [] j zero_ℚ (omega arith))) (zero_is_over d k o)
