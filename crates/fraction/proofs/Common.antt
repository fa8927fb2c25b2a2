-- What a sum over the least common denominator has in common with it.
use Rattle.std.proofs.Common.{◌≡◌, ℕ, zero, suc, ◌+◌, ◌*◌, ◌/◌, ◌≤◌, ◌<◌, ◌⊎◌, inl, inr, ℤ, pos, arith, ap, sym, ◌∙◌, subst}
use Rattle.std.specs.Prelude.{nat_abs, ◌+ℤ◌, ◌*ℤ◌}
use Rattle.std.proofs.lemmas.Int.{ints, unsigned_abs-mul}
use Rattle.std.proofs.Math.Nat.{dvd-add, dvd-add_iff_left, dvd-add_iff_right, dvd-mul_left, dvd-mul_right, dvd_trans, dvd_refl, div-mul_cancel, div-eq_of_eq-mul_left, le_of_dvd, zero-lt-suc}
use Prim.Native.Nat.{◌∣◌}
use Rattle.fraction.specs.Gcd.{gcd}
use Rattle.fraction.specs.Lemmas.Gcd.{gcd_is, gcd_from_IsGcd, gcd_comm, gcd_one_from, common_one, coprime_mul, coprime_parts, coprime_dvd, gcd-quotients}
use Rattle.fraction.specs.Rational.{ℚ}

-- ---- what divides a sum and one part divides the other
three : (u v : ℤ) → (nat_abs (u +ℤ v) ≡ nat_abs u + nat_abs v) ⊎ ((nat_abs (u +ℤ v) + nat_abs v ≡ nat_abs u) ⊎ (nat_abs (u +ℤ v) + nat_abs u ≡ nat_abs v))
three u v = grind (arith, ints)

dvd_other : (k t m n : ℕ) → (t ≡ m + n) ⊎ ((t + n ≡ m) ⊎ (t + m ≡ n)) → k ∣ t → k ∣ n → k ∣ m
dvd_other k t m n (inl e) p q = (dvd-add_iff_left k {m = m} q).1 (subst (λ t. k ∣ t) e p)
dvd_other k t m n (inr (inl e)) p q = subst (λ m. k ∣ m) e (dvd-add k p q)
dvd_other k t m n (inr (inr e)) p q = (dvd-add_iff_right k {n = m} p).1 (subst (λ n. k ∣ n) (sym e) q)

-- ---- u over p and v over q: the sum has nothing in common with p
apart : (t m n a p q : ℕ) → (t ≡ m + n) ⊎ ((t + n ≡ m) ⊎ (t + m ≡ n)) → m ≡ a * q → p ∣ n → gcd a p ≡ 1 → gcd p q ≡ 1 → gcd t p ≡ 1
apart t m n a p q e f d g h = gcd_one_from t p (λ k r s.
    let l : k ∣ a * q = subst (λ m. k ∣ m) f (dvd_other k t m n e r (dvd_trans k s d)) in
    common_one p q k h s (coprime_dvd a k q (coprime_parts a p a k (dvd_refl a) s g) l))

-- all that it has in common with the whole denominator, it has with g
shared_part : (t p q g : ℕ) → gcd t p ≡ 1 → gcd t q ≡ 1 → gcd t g ≡ gcd t (p * g * q)
shared_part t p q g h k =
    let i = gcd_is t g in
    gcd_from_IsGcd t (p * g * q) (gcd t g) (
      i.0,
      dvd_trans _ i.1 (dvd_trans _ (dvd-mul_left g p) (dvd-mul_right (p * g) q)),
      λ d r s. i.2 d r (coprime_dvd (p * q) d g
          (coprime_mul p q d (gcd_comm p d ∙ coprime_parts t p d p r (dvd_refl p) h) (gcd_comm q d ∙ coprime_parts t q d q r (dvd_refl q) k))
          (subst (λ n. d ∣ n) (moved p g q) s)),
    )
  where
    moved : (p g q : ℕ) → p * g * q ≡ p * q * g
    moved p g q = omega arith

pub shared_sum : (x y : ℚ) → let t = x.num *ℤ pos (y.den / gcd x.den y.den) +ℤ y.num *ℤ pos (x.den / gcd x.den y.den) in gcd (nat_abs t) (gcd x.den y.den) ≡ gcd (nat_abs t) (x.den * (y.den / gcd x.den y.den))
shared_sum x y =
    let g = gcd x.den y.den in
    let p = x.den / g in
    let q = y.den / g in
    let i = gcd_is x.den y.den in
    let u = x.num *ℤ pos q in
    let v = y.num *ℤ pos p in
    let m : nat_abs u ≡ nat_abs x.num * q = unsigned_abs-mul x.num (pos q) in
    let n : nat_abs v ≡ nat_abs y.num * p = unsigned_abs-mul y.num (pos p) in
    let h : gcd p q ≡ 1 = gcd-quotients x.den y.den y.lowest.0 in
    let ep : p * g ≡ x.den = div-mul_cancel g i.0 in
    let eq : q * g ≡ y.den = div-mul_cancel g i.1 in
    let a : gcd (nat_abs x.num) p ≡ 1 = coprime_parts (nat_abs x.num) x.den (nat_abs x.num) p (dvd_refl _) (subst (λ d. p ∣ d) ep (dvd-mul_right p g)) x.lowest.1 in
    let c : gcd (nat_abs y.num) q ≡ 1 = coprime_parts (nat_abs y.num) y.den (nat_abs y.num) q (dvd_refl _) (subst (λ d. q ∣ d) eq (dvd-mul_right q g)) y.lowest.1 in
    let first : gcd (nat_abs (u +ℤ v)) p ≡ 1 = apart _ (nat_abs u) (nat_abs v) (nat_abs x.num) p q (three u v) m (subst (λ n. p ∣ n) (sym n) (dvd-mul_left p _)) a h in
    let second : gcd (nat_abs (u +ℤ v)) q ≡ 1 = apart _ (nat_abs v) (nat_abs u) (nat_abs y.num) q p (turned _ _ _ (three u v)) n (subst (λ m. q ∣ m) (sym m) (dvd-mul_left q _)) c (gcd_comm q p ∙ h) in
    shared_part _ p q g first second ∙ ap (λ d. gcd (nat_abs (u +ℤ v)) (d * q)) ep
  where
    turned : (t m n : ℕ) → (t ≡ m + n) ⊎ ((t + n ≡ m) ⊎ (t + m ≡ n)) → (t ≡ n + m) ⊎ ((t + m ≡ n) ⊎ (t + n ≡ m))
    turned t m n (inl e) = inl (omega (arith, e))
    turned t m n (inr (inl e)) = inr (inr e)
    turned t m n (inr (inr e)) = inr (inl e)

-- ---- a divisor of one factor
pub part_times : (d b g : ℕ) → 0 < g → g ∣ d → d / g * b ≡ d * b / g
part_times d b g o h = sym (div-eq_of_eq-mul_left o (ap (λ d. d * b) (sym (div-mul_cancel g h)) ∙ moved (d / g) g b))
  where
    moved : (p g q : ℕ) → p * g * q ≡ p * q * g
    moved p g q = omega arith

pub common_below : (d b g k m : ℕ) → 0 < d * b → g ∣ d → k ≤ g → d * b < m → k < m
common_below d b g k m o h l s = positive d b o h l s
  where
    positive : (d b : ℕ) → 0 < d * b → g ∣ d → k ≤ g → d * b < m → k < m
    positive d zero o h l s = absurd (omega arith)
    positive zero (suc b) o h l s = absurd (omega arith)
    positive (suc d) (suc b) o h l s = let u = le_of_dvd (zero-lt-suc d) h in let v : suc d ≤ suc d * suc b = omega arith in omega arith

-- what a number and g have in common divides what g divides
pub common_divides : (a g d k : ℕ) → k ≡ gcd a g → g ∣ d → k ∣ d
common_divides a g d k e h = subst (λ k. k ∣ d) (sym e) (dvd_trans _ (gcd_is a g).1 h)
