-- Lemmas: integers, their products and their order.
use Rattle.std.proofs.Common.{◌≡◌, ℕ, ◌+◌, ◌*◌, ◌≤◌, ◌<◌, Bool, true, false, arith, refl, ap, sym, ◌∙◌, subst, ◌^◌, to_z, of_z}
use Rattle.std.specs.Prelude.{ℤ, pos, ◌+ℤ◌, ◌-ℤ◌, ◌*ℤ◌, neg_ℤ, ◌≤ℤ◌, int_lt, nat_abs}
use Rattle.std.proofs.lemmas.Int.{ints, to_z-of_z, fits_signed_from_abs}
use Rattle.std.proofs.Math.Nat.{mul-le-mul_right, le_of_mul-le-mul_right}
use borrow.Author.Differences.{up, down, product_is}
use Rattle.std.specs.Int.{w128}

-- p less q
pub diff : ℕ → ℕ → ℤ
diff p q = pos p -ℤ pos q

pub diff-same : (p q r s : ℕ) → p + s ≡ r + q → diff p q ≡ diff r s
unfolding diff
diff-same p q r s e = omega (arith, ints)

pub diff-eq : (p q r s : ℕ) → diff p q ≡ diff r s → p + s ≡ r + q
unfolding diff
diff-eq p q r s e = omega (arith, ints)

pub diff-add : (p q r s : ℕ) → diff p q +ℤ diff r s ≡ diff (p + r) (q + s)
unfolding diff
diff-add p q r s = omega (arith, ints)

pub diff-neg : (p q : ℕ) → neg_ℤ (diff p q) ≡ diff q p
unfolding diff
diff-neg p q = omega (arith, ints)

pub diff-le : (p q r s : ℕ) → p + s ≤ r + q → diff p q ≤ℤ diff r s
unfolding diff
diff-le p q r s e = omega (arith, ints)

pub diff-le_out : (p q r s : ℕ) → diff p q ≤ℤ diff r s → p + s ≤ r + q
unfolding diff
diff-le_out p q r s e = omega (arith, ints)

pub is_diff : (z : ℤ) → z ≡ diff (up z) (down z)
unfolding diff
is_diff z = omega (arith, ints)

-- an integer is a difference
pub by_diff : (P : ℤ → Type 0) → ((p q : ℕ) → P (diff p q)) → (z : ℤ) → P z
by_diff P h z = subst P (sym (is_diff z)) (h (up z) (down z))

product : (u d v e p q r s : ℕ) → u + q ≡ d + p → v + s ≡ e + r → (u * v + d * e) + (p * s + q * r) ≡ (p * r + q * s) + (u * e + d * v)
product u d v e p q r s h k = omega (arith, ap (λ n. n * v) h, ap (λ n. n * e) h, ap (λ n. p * n) k, ap (λ n. q * n) k)

parts : (p q : ℕ) → up (diff p q) + q ≡ down (diff p q) + p
unfolding diff
parts p q = omega (arith, ints)

pub diff-mul : (p q r s : ℕ) → diff p q *ℤ diff r s ≡ diff (p * r + q * s) (p * s + q * r)
diff-mul p q r s =
    let m = product_is (diff p q) (diff r s) in
    is_diff _ ∙ diff-same _ _ _ _ (rw (m.0, m.1) (product _ _ _ _ p q r s (parts p q) (parts r s)))

-- the laws
pub mul_assoc_ℤ : (a b c : ℤ) → (a *ℤ b) *ℤ c ≡ a *ℤ (b *ℤ c)
mul_assoc_ℤ a b c = by_diff (λ a. (a *ℤ b) *ℤ c ≡ a *ℤ (b *ℤ c)) (λ p q. by_diff (λ b. (diff p q *ℤ b) *ℤ c ≡ diff p q *ℤ (b *ℤ c)) (λ r s. by_diff (λ c. (diff p q *ℤ diff r s) *ℤ c ≡ diff p q *ℤ (diff r s *ℤ c)) (λ t u.
    simp diff-mul (diff-same _ _ _ _ (omega arith))) c) b) a

pub mul-add_ℤ : (a b c : ℤ) → a *ℤ (b +ℤ c) ≡ a *ℤ b +ℤ a *ℤ c
mul-add_ℤ a b c = rw (is_diff a, is_diff b, is_diff c) (simp (diff-mul, diff-add) (diff-same _ _ _ _ (omega arith)))

pub cross : (a b c d e f : ℤ) → (a *ℤ d +ℤ c *ℤ b) *ℤ f +ℤ e *ℤ (b *ℤ d) ≡ a *ℤ (d *ℤ f) +ℤ (c *ℤ f +ℤ e *ℤ d) *ℤ b
cross a b c d e f = rw (is_diff a, is_diff b, is_diff c, is_diff d, is_diff e, is_diff f) (simp (diff-mul, diff-add) (diff-same _ _ _ _ (omega arith)))

-- denominators are naturals
pub diff-pos : (n : ℕ) → pos n ≡ diff n 0
unfolding diff
diff-pos n = omega (arith, ints)

-- with natural denominators
pub cross_ℕ : (a c e : ℤ) (b d f : ℕ) → (a *ℤ pos d +ℤ c *ℤ pos b) *ℤ pos f +ℤ e *ℤ pos (b * d) ≡ a *ℤ pos (d * f) +ℤ (c *ℤ pos f +ℤ e *ℤ pos d) *ℤ pos b
cross_ℕ a c e b d f = rw (is_diff a, is_diff c, is_diff e) (simp (diff-pos, diff-mul, diff-add) (diff-same _ _ _ _ (omega arith)))

pub add-le_ℤ : (a b c d : ℤ) → a ≤ℤ b → c ≤ℤ d → (a +ℤ c) ≤ℤ (b +ℤ d)
add-le_ℤ a b c d h k = omega (arith, ints)

-- an order times a natural
times : (p q r s m : ℕ) → p + s ≤ r + q → (p * m + q * 0) + (r * 0 + s * m) ≤ (r * m + s * 0) + (p * 0 + q * m)
times p q r s m h = omega (arith, mul-le-mul_right m h)

pub mul-le_ℤ : (a b : ℤ) (m : ℕ) → a ≤ℤ b → (a *ℤ pos m) ≤ℤ (b *ℤ pos m)
mul-le_ℤ a b m h = rw (is_diff a, is_diff b) (simp (diff-pos, diff-mul) (diff-le _ _ _ _ (times _ _ _ _ m (diff-le_out _ _ _ _ (rw (is_diff a, is_diff b) at h)))))

-- and back
times_back : (p q r s m : ℕ) → 0 < m → p * m + s * m ≤ r * m + q * m → p + s ≤ r + q
times_back p q r s m o h = le_of_mul-le-mul_right (let e : (p + s) * m ≤ (r + q) * m = omega arith in e) o

pub le-mul_ℤ : (a b : ℤ) (m : ℕ) → 0 < m → (a *ℤ pos m) ≤ℤ (b *ℤ pos m) → a ≤ℤ b
le-mul_ℤ a b m o h = rw (is_diff a, is_diff b) (diff-le _ _ _ _ (times_back _ _ _ _ m o
    (let e = diff-le_out _ _ _ _ (simp (diff-pos, diff-mul) at (rw (is_diff a, is_diff b) at h)) in omega arith)))

pub cancel_ℤ : (a b : ℤ) (m : ℕ) → 0 < m → a *ℤ pos m ≡ b *ℤ pos m → a ≡ b
cancel_ℤ a b m o e = omega (arith, ints, le-mul_ℤ a b m o (omega (arith, ints)), le-mul_ℤ b a m o (omega (arith, ints)))

pub neg-mul_ℤ : (a b : ℤ) → neg_ℤ a *ℤ b ≡ neg_ℤ (a *ℤ b)
neg-mul_ℤ a b = rw (is_diff a, is_diff b) (simp (diff-mul, diff-neg) (diff-same _ _ _ _ (omega arith)))

pub add-mul_ℤ : (a b c : ℤ) → (a +ℤ b) *ℤ c ≡ a *ℤ c +ℤ b *ℤ c
add-mul_ℤ a b c = rw (is_diff a, is_diff b, is_diff c) (simp (diff-mul, diff-add) (diff-same _ _ _ _ (omega arith)))

-- a comparison of two fractions, in naturals
pub read_le : (a b : ℤ) (d e : ℕ) → (a *ℤ pos e) ≤ℤ (b *ℤ pos d) → up a * e + down b * d ≤ up b * d + down a * e
read_le a b d e h =
    let k = diff-le_out _ _ _ _ (simp (diff-pos, diff-mul) at (rw (is_diff a, is_diff b) at h)) in omega arith

pub write_le : (a b : ℤ) (d e : ℕ) → up a * e + down b * d ≤ up b * d + down a * e → (a *ℤ pos e) ≤ℤ (b *ℤ pos d)
write_le a b d e h = rw (is_diff a, is_diff b) (simp (diff-pos, diff-mul) (diff-le _ _ _ _ (omega arith)))

-- two tests that fail alike
pub same_less : (a c p q : ℤ) → (c ≤ℤ a → q ≤ℤ p) → (q ≤ℤ p → c ≤ℤ a) → int_lt p q ≡ int_lt a c
same_less a c p q f g = step (int_lt a c) (int_lt p q) refl refl
  where
    step : (s t : Bool) → int_lt a c ≡ s → int_lt p q ≡ t → int_lt p q ≡ int_lt a c
    step true true m n = n ∙ sym m
    step true false m n = absurd (let k = g (grind (arith, ints)) in grind (arith, ints, k))
    step false true m n = absurd (let k = f (grind (arith, ints)) in grind (arith, ints, k))
    step false false m n = n ∙ sym m

pub abs-neg : (z : ℤ) → nat_abs (neg_ℤ z) ≡ nat_abs z
abs-neg z = omega (arith, ints)

-- a number that is small is itself after a cast to bits and back
pub back128 : (z : ℤ) → nat_abs z < 2 ^ 127 → to_z w128 (of_z w128 z) ≡ z
back128 z h = to_z-of_z w128 z (fits_signed_from_abs w128 z h)
