-- Powers of 2 in a greatest common divisor.
use Rattle.std.proofs.Common.{◌≡◌, ℕ, zero, suc, ◌+◌, ◌-◌, ◌*◌, ◌/◌, ◌%◌, ◌^◌, ◌≤◌, ◌<◌, ◌⊎◌, inl, inr, arith, refl, ap, sym, ◌∙◌, subst, min}
use Rattle.std.specs.Int.{trailing_zeros, bit_at, Width}
use Rattle.std.specs.Int.Bits.{bit_xor}
use mir.Val.{bits}
use Rattle.std.proofs.lemmas.Nat.{shl-shr, shr-shr, shr_split, mod-pow-add, pow_pos, pow-add, xor_lt}
use Rattle.std.proofs.lemmas.Nat.Bits.{bit_at-trailing_zeros, bit_at-lt, bit_at-zero, bit_at_xor, same_from_bits}
use Rattle.std.proofs.lemmas.Nat.Gcd.{IsGcd-from_sub}
use Rattle.std.proofs.Math.Nat.{dvd-mul_right, dvd_trans, dvd_refl, min-eq_left, min-eq_right, mod-eq_of_lt, eq-zero-or-pos, le_of_mul-le-mul_right}
use Prim.Native.Nat.{◌∣◌}
use Rattle.fraction.specs.Gcd.{gcd}
use Rattle.fraction.specs.Lemmas.Gcd.{gcd_is, gcd-zero, gcd_from_IsGcd, gcd-step, gcd-one, gcd_comm, gcd_le, gcd-mul, coprime_mul, coprime_parts, coprime_dvd}

pow_next : (z : ℕ) → 2 ^ suc z ≡ 2 ^ z * 2
pow_next z = omega arith

turned : (q p : ℕ) → q * 2 * p ≡ q * (p * 2)
turned q p = omega arith

-- where the z lowest digits are 0
low_zeros : (n z : ℕ) → ((i : ℕ) → i < z → n / 2 ^ i % 2 ≡ 0) → n ≡ n / 2 ^ z * 2 ^ z
low_zeros n zero h = omega arith
low_zeros n (suc z) h =
    let e = low_zeros n z (λ i l. h i (omega arith)) in
    let f : n / 2 ^ z % 2 ≡ 0 = h z (omega arith) in
    let g : n / 2 ^ z / 2 ≡ n / 2 ^ suc z = shr-shr n z 1 ∙ ap (λ k. n / 2 ^ k) (omega arith) in
    let k : n / 2 ^ z ≡ n / 2 ^ z / 2 * 2 = omega (arith, f) in
    e ∙ closed _ _ _ _ k g
  where
    closed : (m p q z : ℕ) → m ≡ p * 2 → p ≡ q → m * 2 ^ z ≡ q * 2 ^ suc z
    closed m p q z k g = ap (λ m. m * 2 ^ z) (k ∙ ap (λ p. p * 2) g) ∙ turned q (2 ^ z) ∙ ap (λ p. q * p) (sym (pow_next z))

pub without_twos : (w : Width) (n : ℕ) → 0 < n → n < 2 ^ bits w → n ≡ n / 2 ^ trailing_zeros w n * 2 ^ trailing_zeros w n
without_twos w n p q = let b = bit_at-trailing_zeros w n p q in low_zeros n (trailing_zeros w n) b.2

pub is_odd : (w : Width) (n : ℕ) → 0 < n → n < 2 ^ bits w → n / 2 ^ trailing_zeros w n % 2 ≡ 1
is_odd w n p q = (bit_at-trailing_zeros w n p q).1

two_coprime : (y : ℕ) → y % 2 ≡ 1 → gcd 2 y ≡ 1
two_coprime y o = gcd_comm 2 y ∙ sym (gcd-step y 2 (omega arith)) ∙ ap (gcd 2) o ∙ gcd-one 2

power_coprime : (k y : ℕ) → y % 2 ≡ 1 → gcd (2 ^ k) y ≡ 1
power_coprime zero y o = gcd_comm 1 y ∙ gcd-one y
power_coprime (suc k) y o = rw (pow_next k) (coprime_mul (2 ^ k) 2 y (power_coprime k y o) (two_coprime y o))

-- a power of 2 changes nothing beside an odd number
pub gcd_without : (m k y n : ℕ) → n ≡ m * 2 ^ k → y % 2 ≡ 1 → gcd m y ≡ gcd n y
gcd_without m k y n e o =
    let i = gcd_is m y in
    gcd_from_IsGcd n y (gcd m y) (
      subst (λ t. gcd m y ∣ t) (sym e) (dvd_trans _ i.0 (dvd-mul_right m (2 ^ k))),
      i.1,
      λ d p q. i.2 d (coprime_dvd (2 ^ k) d m (coprime_parts (2 ^ k) y (2 ^ k) d (dvd_refl _) q (power_coprime k y o)) (subst (λ t. d ∣ t) (e ∙ swapped m (2 ^ k)) p)) q,
    )
  where
    swapped : (m p : ℕ) → m * p ≡ p * m
    swapped m p = omega arith

pub gcd_distance : (x y : ℕ) → x ≤ y → gcd (y - x) x ≡ gcd y x
gcd_distance x y h = gcd_from_IsGcd y x _ (IsGcd-from_sub y x _ h (gcd_is (y - x) x))

both : (a b x y i j : ℕ) → a ≡ x * 2 ^ i → b ≡ y * 2 ^ j → x % 2 ≡ 1 → i ≤ j → gcd x y * 2 ^ i ≡ gcd a b
both a b x y i j e f o h =
    let k = j - i in
    let s : i + k ≡ j = omega arith in
    let g : b ≡ y * 2 ^ k * 2 ^ i = f ∙ ap (λ j. y * 2 ^ j) (sym s) ∙ ap (λ p. y * p) (pow-add 2 i k) ∙ omega arith in
    let d : gcd x y ≡ gcd x (y * 2 ^ k) = gcd_comm x y ∙ gcd_without y k x _ refl o ∙ gcd_comm _ x in
    ap (λ g. g * 2 ^ i) d ∙ sym (gcd-mul x (y * 2 ^ k) (2 ^ i) (pow_pos i)) ∙ (λ t. gcd (sym e t) (sym g t))

pub gcd_shifted : (a b x y i j : ℕ) → a ≡ x * 2 ^ i → b ≡ y * 2 ^ j → x % 2 ≡ 1 → y % 2 ≡ 1 → gcd x y * 2 ^ min i j ≡ gcd a b
gcd_shifted a b x y i j e f o p = by (grind arith)
  where
    by : (i ≤ j) ⊎ (j ≤ i) → gcd x y * 2 ^ min i j ≡ gcd a b
    by (inl h) = ap (λ m. gcd x y * 2 ^ m) (min-eq_left h) ∙ both a b x y i j e f o h
    by (inr h) = (λ t. gcd_comm x y t * 2 ^ min-eq_right h t) ∙ both b a y x j i f e p h ∙ gcd_comm b a

-- the lesser of two odd numbers, and the distance without its factors 2
pub gcd_closer : (x y d n k : ℕ) → d ≡ (x - y) + (y - x) → d ≡ n * 2 ^ k → x % 2 ≡ 1 → y % 2 ≡ 1 → gcd n (min x y) ≡ gcd x y
gcd_closer x y d n k e f o p = by (grind arith)
  where
    by : (x ≤ y) ⊎ (y ≤ x) → gcd n (min x y) ≡ gcd x y
    by (inl h) =
        let s : y - x ≡ n * 2 ^ k = omega (arith, e, f, h) in
        ap (gcd n) (min-eq_left h) ∙ gcd_without n k x _ s o ∙ gcd_distance x y h ∙ gcd_comm y x
    by (inr h) =
        let s : x - y ≡ n * 2 ^ k = omega (arith, e, f, h) in
        ap (gcd n) (min-eq_right h) ∙ gcd_without n k y _ s p ∙ gcd_distance y x h

-- it has no more bits than the second number
pub gcd_held : (a b m r : ℕ) → 0 < b → b < m → r ≡ gcd a b → r % m ≡ gcd a b
gcd_held a b m r o h e = mod-eq_of_lt (let l : r < m = omega (arith, e, gcd_le a b o) in l) ∙ e

pub odd_lesser : (x y : ℕ) → x % 2 ≡ 1 → y % 2 ≡ 1 → min x y % 2 ≡ 1
odd_lesser x y o p = by (grind arith)
  where
    by : (x ≤ y) ⊎ (y ≤ x) → min x y % 2 ≡ 1
    by (inl h) = ap (λ m. m % 2) (min-eq_left h) ∙ o
    by (inr h) = ap (λ m. m % 2) (min-eq_right h) ∙ p

pub gcd_same : (a : ℕ) → gcd a a ≡ a
gcd_same a = sym (gcd_from_IsGcd a a a (dvd_refl a, dvd_refl a, λ d p q. p))

pub gcd_of_zero : (a b : ℕ) → a ≡ 0 → b ≡ gcd a b
gcd_of_zero a b e = sym (gcd-zero b) ∙ ap (gcd b) (sym e) ∙ gcd_comm b a

pub gcd_rest : (a b : ℕ) → 0 < b → gcd (a % b) b ≡ gcd a b
gcd_rest a b h = gcd_comm (a % b) b ∙ gcd-step a b h

pub gcd_with_one : (a b : ℕ) → b ≡ 1 → b ≡ gcd a b
gcd_with_one a b e = e ∙ sym (gcd-one a) ∙ ap (gcd a) (sym e)

pub gcd_with_same : (a b : ℕ) → a ≡ b → b ≡ gcd a b
gcd_with_same a b e = sym (gcd_same b) ∙ ap (λ n. gcd n b) (sym e)

-- ---- two numbers first differ at the lowest bit of their distance
same_bit : (a b : ℕ) → a < 2 → b < 2 → (a + b) % 2 ≡ 0 → a ≡ b
same_bit a b p q e = omega (arith, p, q, e)

equal_bits : (x y i : ℕ) → bit_at (bit_xor x y) i ≡ 0 → bit_at x i ≡ bit_at y i
equal_bits x y i e = same_bit _ _ (bit_at-lt x i) (bit_at-lt y i) (sym (bit_at_xor x y i) ∙ e)

xor_positive : (x y : ℕ) → (x ≡ y → ⊥) → 0 < bit_xor x y
xor_positive x y u = by (eq-zero-or-pos (bit_xor x y))
  where
    by : (bit_xor x y ≡ 0) ⊎ (0 < bit_xor x y) → 0 < bit_xor x y
    by (inl e) = absurd (u (same_from_bits x y (λ i. equal_bits x y i (ap (λ n. bit_at n i) e ∙ bit_at-zero i))))
    by (inr h) = h

low_same : (x y z : ℕ) → ((i : ℕ) → i < z → bit_at x i ≡ bit_at y i) → x % 2 ^ z ≡ y % 2 ^ z
low_same x y zero h = omega arith
low_same x y (suc z) h =
    subst (λ k. x % 2 ^ k ≡ y % 2 ^ k) (let e : 1 + z ≡ suc z = omega arith in e)
    (mod-pow-add x 1 z ∙ (λ t. h z (omega arith) t * 2 ^ z + low_same x y z (λ i l. h i (omega arith)) t) ∙ sym (mod-pow-add y 1 z))

module _ (x y u v p r : ℕ) (ex : x ≡ u * p + r) (ey : y ≡ v * p + r) (l : y ≤ x) (o : 0 < p) where
  above : v ≤ u
  above = le_of_mul-le-mul_right (let l : v * p ≤ u * p = omega (arith, ex, ey, l) in l) o

  rest_times : x - y ≡ (u - v) * p
  rest_times =
      let k = u - v in
      let e : u ≡ v + k = omega (arith, above) in
      let f : u * p ≡ (v + k) * p = ap (λ u. u * p) e in
      omega (arith, ex, ey, f)

  rest_odd : (u % 2 + v % 2) % 2 ≡ 1 → (u - v) % 2 ≡ 1
  rest_odd h = omega (arith, h, above)

Halved : ℕ → ℕ → Type 0
Halved d z = (d / 2 ^ z % 2 ≡ 1) × (d ≡ d / 2 ^ z * 2 ^ z)

halved : (x y u v z r : ℕ) → x ≡ u * 2 ^ z + r → y ≡ v * 2 ^ z + r → y ≤ x → (u % 2 + v % 2) % 2 ≡ 1 → Halved (x - y) z
unfolding Halved
halved x y u v z r ex ey l h =
    let t : x - y ≡ (u - v) * 2 ^ z = rest_times x y u v (2 ^ z) r ex ey l (pow_pos z) in
    let q : (x - y) / 2 ^ z ≡ u - v = ap (λ d. d / 2 ^ z) t ∙ shl-shr (u - v) z in
    (ap (λ m. m % 2) q ∙ rest_odd x y u v (2 ^ z) r ex ey l (pow_pos z) h, t ∙ ap (λ m. m * 2 ^ z) (sym q))

halved_distance : (x y z : ℕ) → x % 2 ^ z ≡ y % 2 ^ z → (x / 2 ^ z % 2 + y / 2 ^ z % 2) % 2 ≡ 1 → Halved ((x - y) + (y - x)) z
halved_distance x y z e h = by (grind arith)
  where
    by : (y ≤ x) ⊎ (x ≤ y) → Halved ((x - y) + (y - x)) z
    by (inl l) =
        let d : x - y ≡ (x - y) + (y - x) = omega (arith, l) in
        subst (λ d. Halved d z) d (halved x y _ _ z (x % 2 ^ z) (sym (shr_split x z)) (sym (shr_split y z) ∙ ap (λ r. y / 2 ^ z * 2 ^ z + r) (sym e)) l h)
    by (inr l) =
        let d : y - x ≡ (x - y) + (y - x) = omega (arith, l) in
        subst (λ d. Halved d z) d
        (halved y x _ _ z (x % 2 ^ z) (sym (shr_split y z) ∙ ap (λ r. y / 2 ^ z * 2 ^ z + r) (sym e)) (sym (shr_split x z)) l (let k : (y / 2 ^ z % 2 + x / 2 ^ z % 2) % 2 ≡ 1 = omega (arith, h) in k))

-- the distance without as many factors 2 as the numbers have equal low bits
pub distance_parts : (w : Width) (x y : ℕ) → x < 2 ^ bits w → y < 2 ^ bits w → (x ≡ y → ⊥)
    → let z = trailing_zeros w (bit_xor x y) in let d = (x - y) + (y - x) in (d / 2 ^ z % 2 ≡ 1) × (d ≡ d / 2 ^ z * 2 ^ z)
unfolding Halved
distance_parts w x y p q u =
    let b = bit_at-trailing_zeros w (bit_xor x y) (xor_positive x y u) (xor_lt (bits w) x y p q) in
    let z = trailing_zeros w (bit_xor x y) in
    halved_distance x y z (low_same x y z (λ i l. equal_bits x y i (b.2 i l))) (sym (bit_at_xor x y z) ∙ b.1)

pub xor_shift : (w : Width) (x y : ℕ) → x < 2 ^ bits w → y < 2 ^ bits w → (x ≡ y → ⊥) → trailing_zeros w (bit_xor x y) < bits w
xor_shift w x y p q u = (bit_at-trailing_zeros w (bit_xor x y) (xor_positive x y u) (xor_lt (bits w) x y p q)).0
