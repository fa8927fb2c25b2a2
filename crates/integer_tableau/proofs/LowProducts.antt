-- Products and sums modulo 2^64, and multiples of powers of 2.
use Rattle.std.proofs.Common.{◌≡◌, ℕ, ◌+◌, ◌-◌, ◌*◌, ◌/◌, ◌%◌, ◌^◌, ◌<◌, ◌≤◌, suc, ℤ, pos, negsuc, zero, to_z, of_z, sym, ap, arith, ◌∙◌}
use Rattle.std.specs.Prelude.{nat_abs, neg_ℤ, ◌+ℤ◌, ◌*ℤ◌}
use Rattle.std.specs.Int.{w64, int_wrap}
use Rattle.std.proofs.lemmas.Int.{ints, int_wrap_fits, int_wrap-add_left, int_wrap-add_right, int_wrap-mul_left, int_wrap-mul_right, unsigned_abs-mul, fits_signed_from_abs, to_z-of_z}
use Rattle.std.proofs.lemmas.Nat.{pow_pos, pow-add, mod-pow-add, mod_low, mod_below, div-mul-add}
use Rattle.std.proofs.Math.Nat.{add-mod-mod, mul-mod_left, mul-le-mul_right, div-add-mod', lt_of_le_of_lt}
use lib.IntN.{*ℤ_comm, pos-*ℤ-pos, negsuc-*ℤ-pos}
use lib.Signed.{shr_z, mag_shr}
use mir.Val.{SFits}
use Rattle.fraction.specs.Lemmas.Integers.{mul_assoc_ℤ, mul-add_ℤ}

-- ---- modulo 2^64
-- to wrap on the way changes nothing
sum_of_wrapped : (x y u v : ℤ) → int_wrap w64 (x *ℤ int_wrap w64 u +ℤ y *ℤ int_wrap w64 v) ≡ int_wrap w64 (x *ℤ u +ℤ y *ℤ v)
sum_of_wrapped x y u v =
    sym (int_wrap-add_left w64 (x *ℤ int_wrap w64 u) (y *ℤ int_wrap w64 v))
    ∙ ap (λ z. int_wrap w64 (z +ℤ y *ℤ int_wrap w64 v)) (int_wrap-mul_right w64 x u)
    ∙ int_wrap-add_left w64 (x *ℤ u) (y *ℤ int_wrap w64 v)
    ∙ sym (int_wrap-add_right w64 (x *ℤ u) (y *ℤ int_wrap w64 v))
    ∙ ap (λ z. int_wrap w64 (x *ℤ u +ℤ z)) (int_wrap-mul_right w64 y v)
    ∙ int_wrap-add_right w64 (x *ℤ u) (y *ℤ v)

inner_last : (a b c d : ℤ) → (a *ℤ b) *ℤ (c *ℤ d) ≡ (a *ℤ d) *ℤ (b *ℤ c)
inner_last a b c d =
    mul_assoc_ℤ a b (c *ℤ d)
    ∙ ap (λ z. a *ℤ z) (sym (mul_assoc_ℤ b c d) ∙ *ℤ_comm (b *ℤ c) d)
    ∙ sym (mul_assoc_ℤ a d (b *ℤ c))

one_times : (z : ℤ) → pos 1 *ℤ z ≡ z
one_times z = omega (arith, ints)

-- the factors are divided by the odd part modulo 2^64: the sum times the odd part is the sum of the products
odd_times : (odd inverse a e s q : ℤ) → int_wrap w64 (odd *ℤ inverse) ≡ pos 1
    → int_wrap w64 (odd *ℤ int_wrap w64 (a *ℤ int_wrap w64 (e *ℤ inverse) +ℤ s *ℤ int_wrap w64 (q *ℤ inverse))) ≡ int_wrap w64 (a *ℤ e +ℤ s *ℤ q)
odd_times odd inverse a e s q h =
    let u = int_wrap w64 (e *ℤ inverse) in
    let v = int_wrap w64 (q *ℤ inverse) in
    int_wrap-mul_right w64 odd (a *ℤ u +ℤ s *ℤ v)
    ∙ ap (int_wrap w64) (mul-add_ℤ odd (a *ℤ u) (s *ℤ v) ∙ sym (λ i. mul_assoc_ℤ odd a u i +ℤ mul_assoc_ℤ odd s v i))
    ∙ sum_of_wrapped (odd *ℤ a) (odd *ℤ s) (e *ℤ inverse) (q *ℤ inverse)
    ∙ ap (int_wrap w64) ((λ i. inner_last odd a e inverse i +ℤ inner_last odd s q inverse i) ∙ sym (mul-add_ℤ (odd *ℤ inverse) (a *ℤ e) (s *ℤ q)))
    ∙ sym (int_wrap-mul_left w64 (odd *ℤ inverse) (a *ℤ e +ℤ s *ℤ q))
    ∙ ap (λ z. int_wrap w64 (z *ℤ (a *ℤ e +ℤ s *ℤ q))) h
    ∙ ap (int_wrap w64) (one_times (a *ℤ e +ℤ s *ℤ q))

size_of_sum : (u v : ℤ) (m n : ℕ) → nat_abs u ≡ m → nat_abs v ≡ n → m + n < 2 ^ 63 → nat_abs (u +ℤ v) < 2 ^ 63
size_of_sum u v m n e f h = omega (arith, ints)

-- a quotient t, found so, is the right one
pub exact_at : (number odd inverse a e s q x t : ℤ) (zeros reach : ℕ)
    → odd *ℤ pos (2 ^ zeros) ≡ number → int_wrap w64 (odd *ℤ inverse) ≡ pos 1 → reach * nat_abs odd < 2 ^ 63
    → x ≡ int_wrap w64 (a *ℤ int_wrap w64 (e *ℤ inverse) +ℤ s *ℤ int_wrap w64 (q *ℤ inverse))
    → nat_abs x ≤ reach → t *ℤ pos (2 ^ zeros) ≡ x → nat_abs a * nat_abs e + nat_abs s * nat_abs q < 2 ^ 63
    → t *ℤ number ≡ a *ℤ e +ℤ s *ℤ q
exact_at number odd inverse a e s q x t zeros reach parts inverts within is small whole fits =
    ap (λ z. t *ℤ z) (sym parts ∙ *ℤ_comm odd (pos (2 ^ zeros))) ∙ sym (mul_assoc_ℤ t (pos (2 ^ zeros)) odd)
    ∙ ap (λ z. z *ℤ odd) whole ∙ *ℤ_comm x odd
    ∙ sym (int_wrap_fits w64 (odd *ℤ x) (fits_signed_from_abs w64 (odd *ℤ x) (below (nat_abs odd) (nat_abs x) (nat_abs (odd *ℤ x)) reach (unsigned_abs-mul odd x) small within)))
    ∙ ap (λ z. int_wrap w64 (odd *ℤ z)) is
    ∙ odd_times odd inverse a e s q inverts
    ∙ int_wrap_fits w64 (a *ℤ e +ℤ s *ℤ q) (fits_signed_from_abs w64 (a *ℤ e +ℤ s *ℤ q) (size_of_sum (a *ℤ e) (s *ℤ q) _ _ (unsigned_abs-mul a e) (unsigned_abs-mul s q) fits))
  where
    below : (o n m most : ℕ) → m ≡ o * n → n ≤ most → most * o < 2 ^ 63 → m < 2 ^ 63
    below o n m most f k h = omega (arith, mul-le-mul_right o k)

-- ---- multiples
-- what is left of a multiple, when a multiple is taken away, is one
drop_multiple : (n c m : ℕ) → c % m ≡ 0 → (n + c) % m ≡ 0 → n % m ≡ 0
drop_multiple n c m e f = ap (λ z. z % m) (sym (add-zero_of n)) ∙ ap (λ z. (n + z) % m) (sym e) ∙ add-mod-mod n c m ∙ f
  where
    add-zero_of : (n : ℕ) → n + 0 ≡ n
    add-zero_of n = omega arith

whole_word : (k : ℕ) → k < 64 → 2 ^ 64 % 2 ^ k ≡ 0
whole_word k h = ap (λ z. z % 2 ^ k) (ap (λ j. 2 ^ j) (sum_is k h) ∙ pow-add 2 (64 - k) k) ∙ mul-mod_left (2 ^ (64 - k)) (2 ^ k)
  where
    sum_is : (k : ℕ) → k < 64 → 64 ≡ 64 - k + k
    sum_is k h = omega arith

mod_word : (u k : ℕ) → k < 64 → u % 2 ^ 64 % 2 ^ k ≡ u % 2 ^ k
mod_word u k h =
    ap (λ j. u % 2 ^ j % 2 ^ k) (sum_is k h) ∙ ap (λ z. z % 2 ^ k) (mod-pow-add u (64 - k) k)
    ∙ mod_low (u / 2 ^ k % 2 ^ (64 - k)) k (u % 2 ^ k) (mod_below u (2 ^ k) (pow_pos k))
  where
    sum_is : (k : ℕ) → k < 64 → 64 ≡ 64 - k + k
    sum_is k h = omega arith

pub raised_whole : (z : ℤ) (reach k : ℕ) → nat_abs z ≤ 2 ^ 63 → k < 64 → reach % 2 ^ k ≡ 0 → (of_z w64 z + reach) % 2 ^ 64 % 2 ^ k ≡ 0 → nat_abs z % 2 ^ k ≡ 0
raised_whole (pos n) reach k small h e f = drop_multiple n reach (2 ^ k) e (sym (mod_word (n + reach) k h) ∙ f)
raised_whole (negsuc n) reach k small h e f =
    let g = drop_multiple (2 ^ 64 - suc n) reach (2 ^ k) e (sym (mod_word (2 ^ 64 - suc n + reach) k h) ∙ f) in
    drop_multiple (suc n) (2 ^ 64 - suc n) (2 ^ k) g (ap (λ z. z % 2 ^ k) (back n small) ∙ whole_word k h)
  where
    back : (n : ℕ) → suc n ≤ 2 ^ 63 → suc n + (2 ^ 64 - suc n) ≡ 2 ^ 64
    back n h = omega arith

-- a shift of a multiple, which copies the sign bit, is exact
shift_exact : (z : ℤ) (m : ℕ) → 0 < m → nat_abs z % m ≡ 0 → shr_z z m *ℤ pos m ≡ z
shift_exact (pos n) m h e = pos-*ℤ-pos (n / m) m ∙ ap pos (omega (arith, div-add-mod' n m))
shift_exact (negsuc n) m h e = by_quotient (before (suc n / m) m n (div-add-mod' (suc n) m) e)
  where
    before : (a m n : ℕ) → a * m + suc n % m ≡ suc n → suc n % m ≡ 0 → (b : ℕ) × (suc b * m ≡ suc n)
    before zero m n e f = absurd (omega (arith, e, f))
    before (suc a) m n e f = (a, omega (arith, e, f))

    by_quotient : (b : ℕ) × (suc b * m ≡ suc n) → negsuc (n / m) *ℤ pos m ≡ negsuc n
    by_quotient (b, f) =
        let g : n ≡ b * m + (m - 1) = omega (arith, f) in
        let less : m - 1 < m = omega arith in
        ap (λ z. negsuc z *ℤ pos m) (ap (λ z. z / m) g ∙ div-mul-add b m (m - 1) less) ∙ negsuc-*ℤ-pos b m ∙ ap (λ z. neg_ℤ (pos z)) f

pub shifted_back : (z : ℤ) (zeros : ℕ) → SFits w64 z → nat_abs z % 2 ^ zeros ≡ 0
    → to_z w64 (of_z w64 (shr_z (to_z w64 (of_z w64 z)) (2 ^ zeros))) *ℤ pos (2 ^ zeros) ≡ z
shifted_back z zeros f e =
    ap (λ y. y *ℤ pos (2 ^ zeros)) (ap (λ y. to_z w64 (of_z w64 (shr_z y (2 ^ zeros)))) (to_z-of_z w64 z f) ∙ to_z-of_z w64 (shr_z z (2 ^ zeros)) (small z f))
    ∙ shift_exact z (2 ^ zeros) (pow_pos zeros) e
  where
    small : (z : ℤ) → SFits w64 z → SFits w64 (shr_z z (2 ^ zeros))
    small z f = record { sfits = lt_of_le_of_lt (mag_shr z (2 ^ zeros)) f.sfits }
