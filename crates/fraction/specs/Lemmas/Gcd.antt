-- Lemmas: the greatest common divisor as a function, and what makes fractions in lowest terms equal.
use Rattle.std.proofs.Common.{◌⊎◌, inl, inr, ◌≡◌, ℕ, zero, suc, ◌+◌, ◌*◌, ◌/◌, ◌%◌, ◌≤◌, ◌<◌, arith, refl, ap, sym, ◌∙◌, subst}
use Rattle.std.specs.Int.{IsGcd}
use Rattle.std.proofs.lemmas.Nat.Gcd.{IsGcd-swap, IsGcd-from_zero, IsGcd-from_mod, same_from_IsGcd, dvd_antisymm, dvd_trans}
use Rattle.std.proofs.Math.Nat.{mul-div_cancel', dvd_of_mul-dvd-mul_right, mul-dvd-mul_right, eq-one_of_dvd-one, dvd-zero, dvd_refl, le_of_dvd, dvd-mod_iff, mod-lt, div-add-mod, mul-add-mod_self_right, mod-eq_of_lt, mul-lt-mul_of_pos_right, dvd-mul_left, dvd-mul_right, div-mul_cancel, eq_of_mul-eq-mul_right, zero-mul, eq-zero-or-pos, one-mul, pos_of_dvd_of_pos}
use Prim.Native.Nat.{◌∣◌}
use Rattle.fraction.specs.Gcd.{gcd_within, gcd}

within-IsGcd : (k a b : ℕ) → b < k → IsGcd a b (gcd_within k a b)
unfolding gcd_within
within-IsGcd zero a b h = absurd (omega arith)
within-IsGcd (suc k) a zero h = IsGcd-from_zero a 0 refl
within-IsGcd (suc k) a (suc b) h =
    IsGcd-from_mod a (suc b) _ (within-IsGcd k (suc b) (a % suc b) (let l : a % suc b < suc b = omega arith in omega arith))

pub gcd_is : (a b : ℕ) → IsGcd a b (gcd a b)
unfolding gcd
gcd_is a b = within-IsGcd (suc b) a b (omega arith)

-- any greatest common divisor is this one
pub gcd_from_IsGcd : (a b g : ℕ) → IsGcd a b g → g ≡ gcd a b
gcd_from_IsGcd a b g h = same_from_IsGcd a b g (gcd a b) h (gcd_is a b)

mod-scaled : (a b c : ℕ) → 0 < b → 0 < c → (a * c) % (b * c) ≡ (a % b) * c
mod-scaled a b c p q =
    let r : a % b < b = mod-lt a p in
    let e : a * c ≡ a / b * (b * c) + a % b * c = omega (arith, ap (λ n. n * c) (div-add-mod a b)) in
    rw e (mul-add-mod_self_right (a / b) (b * c) (a % b * c) ∙ mod-eq_of_lt (mul-lt-mul_of_pos_right r q))

to_mod : (a b g : ℕ) → IsGcd a b g → IsGcd b (a % b) g
to_mod a b g i = (i.1, (dvd-mod_iff g i.1).1 i.0, λ d p q. i.2 d ((dvd-mod_iff d p).0 q) p)

within-scaled : (k a b c : ℕ) → b < k → 0 < c → (g : ℕ) → IsGcd (a * c) (b * c) g → g ≡ gcd_within k a b * c
unfolding gcd_within
within-scaled zero a b c h q g i = absurd (omega arith)
within-scaled (suc k) a zero c h q g i = same_from_IsGcd (a * c) (0 * c) g (a * c) i (IsGcd-from_zero (a * c) (0 * c) (zero-mul c))
within-scaled (suc k) a (suc b) c h q g i =
    within-scaled k (suc b) (a % suc b) c (let l : a % suc b < suc b = omega arith in omega arith) q g
    (rw (← mod-scaled a (suc b) c (omega arith) q) (to_mod (a * c) (suc b * c) g i))

pub gcd-mul : (a b c : ℕ) → 0 < c → gcd (a * c) (b * c) ≡ gcd a b * c
unfolding gcd
gcd-mul a b c q = within-scaled (suc b) a b c (omega arith) q _ (gcd_is (a * c) (b * c))

-- Euclid's lemma
pub dvd_of_coprime : (a b c : ℕ) → 0 < c → gcd a b ≡ 1 → b ∣ a * c → b ∣ c
dvd_of_coprime a b c q e d =
    let i = gcd_is (a * c) (b * c) in
    let g : gcd (a * c) (b * c) ≡ c = gcd-mul a b c q ∙ rw e (one-mul c) in
    rw g at (i.2 b d (dvd-mul_right b c))

pub gcd_pos : (a b : ℕ) → 0 < b → 0 < gcd a b
gcd_pos a b h = pos_of_dvd_of_pos (gcd_is a b).1 h

-- what is left of both is coprime
pub gcd-quotients : (a b : ℕ) → 0 < b → gcd (a / gcd a b) (b / gcd a b) ≡ 1
gcd-quotients a b h =
    let g = gcd a b in
    let i = gcd_is a b in
    let p : 0 < g = gcd_pos a b h in
    let e : gcd (a / g * g) (b / g * g) ≡ gcd a b = rw (div-mul_cancel g i.0, div-mul_cancel g i.1) refl in
    eq_of_mul-eq-mul_right g p _ 1 (sym (gcd-mul (a / g) (b / g) g p) ∙ e ∙ sym (one-mul g))

-- fractions in lowest terms that are equal have one denominator
pub same_lowest : (a b c d : ℕ) → 0 < b → 0 < d → gcd a b ≡ 1 → gcd c d ≡ 1 → a * d ≡ c * b → b ≡ d
same_lowest a b c d p q g h e = dvd_antisymm
    (dvd_of_coprime a b d q g (rw e (dvd-mul_left b c)))
    (dvd_of_coprime c d b p h (rw (← e) (dvd-mul_left d a)))

pub gcd-zero : (a : ℕ) → gcd a 0 ≡ a
unfolding gcd gcd_within
gcd-zero a = refl

pub gcd-step : (a b : ℕ) → 0 < b → gcd b (a % b) ≡ gcd a b
gcd-step a b h = gcd_from_IsGcd a b _ (IsGcd-from_mod a b _ (gcd_is b (a % b)))

pub gcd_le : (a b : ℕ) → 0 < b → gcd a b ≤ b
gcd_le a b h = le_of_dvd h (gcd_is a b).1

pub gcd_one_from : (a b : ℕ) → ((d : ℕ) → d ∣ a → d ∣ b → d ≡ 1) → gcd a b ≡ 1
gcd_one_from a b h = h (gcd a b) (gcd_is a b).0 (gcd_is a b).1

pub common_one : (a b d : ℕ) → gcd a b ≡ 1 → d ∣ a → d ∣ b → d ≡ 1
common_one a b d e p q = eq-one_of_dvd-one (rw e at ((gcd_is a b).2 d p q))

-- parts of coprime numbers are coprime
pub coprime_parts : (a b c d : ℕ) → c ∣ a → d ∣ b → gcd a b ≡ 1 → gcd c d ≡ 1
coprime_parts a b c d p q e = gcd_one_from c d (λ k r s. common_one a b k e (dvd_trans k r p) (dvd_trans k s q))

pub gcd_comm : (a b : ℕ) → gcd a b ≡ gcd b a
gcd_comm a b = gcd_from_IsGcd b a _ (IsGcd-swap a b _ (gcd_is a b))

pub coprime_mul : (a b m : ℕ) → gcd a m ≡ 1 → gcd b m ≡ 1 → gcd (a * b) m ≡ 1
coprime_mul a b m e f = gcd_one_from (a * b) m (λ d p q. common_one b m d f (shared d p q (eq-zero-or-pos b)) q)
  where
    shared : (d : ℕ) → d ∣ a * b → d ∣ m → (b ≡ 0) ⊎ (0 < b) → d ∣ b
    shared d p q (inl z) = rw z (dvd-zero d)
    shared d p q (inr h) = dvd_of_coprime a d b h (coprime_parts a m a d (dvd_refl a) q e) p

pub coprime_mul_both : (a b c d : ℕ) → gcd a c ≡ 1 → gcd a d ≡ 1 → gcd b c ≡ 1 → gcd b d ≡ 1 → gcd (a * b) (c * d) ≡ 1
coprime_mul_both a b c d p q r s = coprime_mul a b (c * d) (both a p q) (both b r s)
  where
    both : (a : ℕ) → gcd a c ≡ 1 → gcd a d ≡ 1 → gcd a (c * d) ≡ 1
    both a p q = gcd_comm a (c * d) ∙ coprime_mul c d a (gcd_comm c a ∙ p) (gcd_comm d a ∙ q)

pub quotient_dvd : (a g : ℕ) → g ∣ a → a / g ∣ a
quotient_dvd a g d = rw (div-mul_cancel g d) at (dvd-mul_right (a / g) g)

pub gcd-one : (a : ℕ) → gcd a 1 ≡ 1
gcd-one a = eq-one_of_dvd-one (gcd_is a 1).1

pub coprime_dvd : (a b c : ℕ) → gcd a b ≡ 1 → b ∣ a * c → b ∣ c
coprime_dvd a b c e p = by (eq-zero-or-pos c)
  where
    by : (c ≡ 0) ⊎ (0 < c) → b ∣ c
    by (inl z) = rw z (dvd-zero b)
    by (inr o) = dvd_of_coprime a b c o e p

lcm_plain : (q p g m n : ℕ) → 0 < g → gcd p q ≡ 1 → p * g * m ≡ n → q * g ∣ n → q * g * p ∣ n
lcm_plain q p g m n o c e d =
    let f : p * m * g ≡ n = omega arith in
    let t = coprime_dvd p q m c (dvd_of_mul-dvd-mul_right q o (subst (λ k. q * g ∣ k) (sym f) d)) in
    let u : q * g * p ≡ q * (g * p) = omega arith in
    let v : n ≡ m * (g * p) = omega arith in
    subst (λ k. k ∣ n) (sym u) (subst (λ k. q * (g * p) ∣ k) (sym v) (mul-dvd-mul_right q t (g * p)))

-- a common multiple is a multiple of the least one
pub lcm_dvd : (b d n : ℕ) → 0 < d → b ∣ n → d ∣ n → b * (d / gcd b d) ∣ n
lcm_dvd b d n h p q =
    let g = gcd b d in
    let i = gcd_is b d in
    let eb : b / g * g ≡ b = div-mul_cancel g i.0 in
    let ed : d / g * g ≡ d = div-mul_cancel g i.1 in
    let en : d / g * g * (n / d) ≡ n = ap (λ k. k * (n / d)) ed ∙ mul-div_cancel' d q in
    subst (λ k. k * (d / g) ∣ n) eb (lcm_plain (b / g) (d / g) g (n / d) n (gcd_pos b d h) (gcd_comm (d / g) (b / g) ∙ gcd-quotients b d h) en
    (subst (λ k. k ∣ n) (sym eb) p))
