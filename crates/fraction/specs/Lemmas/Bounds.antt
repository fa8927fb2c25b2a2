-- Lemmas: sums and products that cannot be cramped.
use Rattle.std.proofs.Common.{◌≡◌, ℕ, zero, suc, ◌+◌, ◌*◌, ◌/◌, ◌^◌, ◌≤◌, ◌<◌, arith, refl, ap, sym, ◌∙◌, subst, Bool, true, false, Option, Some, None}
use Rattle.std.specs.Prelude.{int_div, List, [], ◌∷◌, if◌then◌else◌, ℤ, pos, ◌+ℤ◌, ◌*ℤ◌, nat_abs}
use Rattle.std.proofs.lemmas.Int.{ints, unsigned_abs-mul}
use Rattle.std.proofs.Math.Nat.{mul-one, mul-le-mul, div-le_self, mul-div_cancel', mul-pos, div-mul_cancel, mul-le-mul_right, mul-le-mul_left, le_of_mul-le-mul_right, le_of_dvd, dvd_trans}
use Prim.Native.Nat.{◌∣◌}
use borrow.Author.Tests.{lt-ltb}
use Rattle.std.specs.Option.{option_map, option_and_then}
use Rattle.fraction.specs.Lemmas.Gcd.{gcd-one, gcd_is, gcd_pos, lcm_dvd}
use Rattle.fraction.specs.Gcd.{gcd}
use Rattle.fraction.specs.Lemmas.Lowest.{abs-div}
use Rattle.fraction.specs.Lemmas.Rational.{lit_one, made, ℚ_is, frac-*ℚ, +ℚ_assoc, frac_is, +ℚ_over, quotient_positive, frac_den}
use Rattle.fraction.specs.Rational.{ℚ, ◌*ℚ◌, whole, frac, ◌+ℚ◌}
use Rattle.fraction.specs.Lemmas.Ring.{+ℚ-zero}
use Rattle.fraction.specs.Checked.{add_fits, is_small, mul_fits, add_checked, mul_checked, dot_from}
use Rattle.fraction.specs.Bounds.{Within}

-- ---- operations that fit
pub mul_is : (x y : ℚ) → mul_fits x y ≡ true → mul_checked x y ≡ Some (x *ℚ y)
unfolding mul_checked
mul_is x y e = rw e

pub add_is : (x y : ℚ) → add_fits x y ≡ true → add_checked x y ≡ Some (x +ℚ y)
unfolding add_checked
add_is x y e = rw e

abs-sum : (a b : ℤ) → nat_abs (a +ℤ b) ≤ nat_abs a + nat_abs b
abs-sum a b = omega (arith, ints)

-- p over b is at most a over n, and b times q divides n: p times q is at most a
part_le : (p q b n a k : ℕ) → 0 < b → 0 < k → b * q * k ≡ n → p * n ≤ a * b → p * q ≤ a
part_le p q b n (a) zero h o e l = absurd (omega arith)
part_le p q b n a (suc k) h o e l =
    le_of_mul-le-mul_right {k = b} (let s : p * q * b * suc k ≤ a * b = omega (arith, l, ap (λ m. p * m) e) in omega arith) h

pub is_small_from : (z : ℤ) → nat_abs z < 2 ^ 127 → is_small z ≡ true
is_small_from z h = lt-ltb _ _ h

least_common : (b d g q p : ℕ) → q * g ≡ b → p * g ≡ d → 0 < g → d * q ≡ b * p
least_common b d g q p e f o = rw (← e, ← f) (omega arith)

-- each of the three numbers of an addition
parts_fit : (x y : ℚ) (n a b g : ℕ) → g ≡ gcd x.den y.den → 0 < n → Within n a x → Within n b y
    → (nat_abs (x.num *ℤ pos (y.den / g)) ≤ a) × (nat_abs (y.num *ℤ pos (x.den / g)) ≤ b) × (x.den * (y.den / g) ≤ n)
parts_fit x y n a b g e o u v =
    let i = gcd_is x.den y.den in
    let d : x.den * (y.den / gcd x.den y.den) ∣ n = lcm_dvd x.den y.den n y.lowest.0 u.divides v.divides in
    let k = n / (x.den * (y.den / gcd x.den y.den)) in
    let ek : x.den * (y.den / gcd x.den y.den) * k ≡ n = mul-div_cancel' _ d in
    let ok : 0 < k = positive _ k n o ek in
    let swapped : y.den * (x.den / gcd x.den y.den) ≡ x.den * (y.den / gcd x.den y.den) =
    least_common x.den y.den (gcd x.den y.den) _ _ (div-mul_cancel _ i.0) (div-mul_cancel _ i.1) (gcd_pos x.den y.den y.lowest.0) in
    rw (e, unsigned_abs-mul x.num (pos (y.den / gcd x.den y.den)), unsigned_abs-mul y.num (pos (x.den / gcd x.den y.den))) (
      part_le _ (y.den / gcd x.den y.den) x.den n a k x.lowest.0 ok ek u.size,
      part_le _ (x.den / gcd x.den y.den) y.den n b k y.lowest.0 ok (ap (λ m. m * k) swapped ∙ ek) v.size,
      le_of_dvd o d,
    )
  where
    positive : (m k n : ℕ) → 0 < n → m * k ≡ n → 0 < k
    positive m zero n o e = omega arith
    positive m (suc k) n o e = omega arith

-- an addition that cannot be cramped
pub add_fits_within : (x y : ℚ) (n a b : ℕ) → 0 < n → n < 2 ^ 127 → a + b < 2 ^ 127 → Within n a x → Within n b y → add_fits x y ≡ true
unfolding add_fits
add_fits_within x y n a b o p q u v =
    let f = parts_fit x y n a b _ refl o u v in
    rw (
      is_small_from _ (let h : nat_abs (x.num *ℤ pos (y.den / gcd x.den y.den)) < 2 ^ 127 = omega arith in h),
      is_small_from _ (let h : nat_abs (y.num *ℤ pos (x.den / gcd x.den y.den)) < 2 ^ 127 = omega arith in h),
      is_small_from _ (let h : nat_abs (x.num *ℤ pos (y.den / gcd x.den y.den) +ℤ y.num *ℤ pos (x.den / gcd x.den y.den)) < 2 ^ 127 = omega (arith, abs-sum (x.num *ℤ pos (y.den / gcd x.den y.den)) (y.num *ℤ pos (x.den / gcd x.den y.den))) in h),
    )
    (lt-ltb _ _ (let h : x.den * (y.den / gcd x.den y.den) < 2 ^ 127 = omega arith in h))

-- the size of a sum over a common denominator
sum_size : (p q c d n a b s t l e w : ℕ) → p * n ≤ a * c → q * n ≤ b * d → w ≤ p * s + q * t → c * s ≡ l → d * t ≡ l → w * n ≤ (a + b) * l
sum_size p q c d n a b s t l e w h k m f g =
    omega (arith, mul-le-mul_right s h, mul-le-mul_right t k, mul-le-mul_right n m, ap (λ z. a * z) f, ap (λ z. b * z) g)

lowered : (w n m l u d : ℕ) → 0 < l → w * n ≤ m * l → u * l ≡ w * d → u * n ≤ m * d
lowered w n m l u d o h e = le_of_mul-le-mul_right (let k : u * n * l ≤ m * d * l = omega (arith, mul-le-mul_right d h, ap (λ z. z * n) e) in k) o

-- and its bounds
pub Within-+ℚ : (x y : ℚ) (n a b : ℕ) → 0 < n → Within n a x → Within n b y → Within n (a + b) (x +ℚ y)
Within-+ℚ x y n a b o u v = subst (Within n (a + b)) (+ℚ_over x y) record {
  divides = dvd_trans _ (frac_den top bottom positive) (lcm_dvd x.den y.den n y.lowest.0 u.divides v.divides);
  size = lowered (nat_abs top) n (a + b) bottom _ _ positive
      (sum_size (nat_abs x.num) (nat_abs y.num) x.den y.den n a b (y.den / gcd x.den y.den) (x.den / gcd x.den y.den) bottom 0 (nat_abs top) u.size v.size
      (omega (arith, abs-sum (x.num *ℤ pos (y.den / gcd x.den y.den)) (y.num *ℤ pos (x.den / gcd x.den y.den)), unsigned_abs-mul x.num (pos (y.den / gcd x.den y.den)), unsigned_abs-mul y.num (pos (x.den / gcd x.den y.den)))) refl swapped)
      (sym (unsigned_abs-mul (frac top bottom).num (pos bottom)) ∙ ap nat_abs (frac_is top bottom positive) ∙ unsigned_abs-mul top (pos (frac top bottom).den));
}
  where
    top : ℤ
    top = x.num *ℤ pos (y.den / gcd x.den y.den) +ℤ y.num *ℤ pos (x.den / gcd x.den y.den)

    bottom : ℕ
    bottom = x.den * (y.den / gcd x.den y.den)

    positive : 0 < bottom
    positive = mul-pos x.lowest.0 (quotient_positive x.den y.den y.lowest.0)

    swapped : y.den * (x.den / gcd x.den y.den) ≡ bottom
    swapped = least_common x.den y.den (gcd x.den y.den) _ _ (div-mul_cancel _ (gcd_is x.den y.den).0) (div-mul_cancel _ (gcd_is x.den y.den).1) (gcd_pos x.den y.den y.lowest.0)

-- ---- the exact value
-- a checked sum of products that is there is the sum of the products
abbrev pub dot_value : List ℚ → List ℚ → ℚ
dot_value [] ys = whole (pos 0)
dot_value (x ∷ xs) [] = whole (pos 0)
dot_value (x ∷ xs) (y ∷ ys) = x *ℚ y +ℚ dot_value xs ys

some_of : {A : Type 0} (b : Bool) (v w : A) → (if b then Some v else None) ≡ Some w → v ≡ w
some_of true v w e = cc
some_of false v w e = cc

-- what a step that didn't fail was given
pub was_some : {A B : Type 0} (f : A → Option B) (o : Option A) (t : B) → option_and_then f o ≡ Some t → (v : A) × (o ≡ Some v) × (f v ≡ Some t)
was_some f None t e = cc
was_some f (Some v) t e = (v, refl, e)

pub was_mapped : {A B : Type 0} (f : A → B) (o : Option A) (t : B) → option_map f o ≡ Some t → (v : A) × (o ≡ Some v) × (f v ≡ t)
was_mapped f None t e = cc
was_mapped f (Some v) t e = (v, refl, cc)

pub value_from_mul : (x y p : ℚ) → mul_checked x y ≡ Some p → x *ℚ y ≡ p
unfolding mul_checked
value_from_mul x y p e = some_of _ _ _ e

pub value_from_add : (x y p : ℚ) → add_checked x y ≡ Some p → x +ℚ y ≡ p
unfolding add_checked
value_from_add x y p e = some_of _ _ _ e

pub value_from_dot : (s : ℚ) (xs ys : List ℚ) (t : ℚ) → dot_from s xs ys ≡ Some t → t ≡ s +ℚ dot_value xs ys
value_from_dot s [] ys t e = rw (+ℚ-zero s) (cc)
value_from_dot s (x ∷ xs) [] t e = rw (+ℚ-zero s) (cc)
value_from_dot s (x ∷ xs) (y ∷ ys) t e =
    let m = was_some (λ p. option_and_then (λ t. dot_from t xs ys) (add_checked s p)) (mul_checked x y) t e in
    let a = was_some (λ t. dot_from t xs ys) (add_checked s m.0) t m.2 in
    value_from_dot a.0 xs ys t a.2
    ∙ ap (λ z. z +ℚ dot_value xs ys) (sym (value_from_add s m.0 a.0 a.1) ∙ ap (λ z. s +ℚ z) (sym (value_from_mul x y m.0 m.1)))
    ∙ +ℚ_assoc s (x *ℚ y) (dot_value xs ys)

-- ---- products
pub whole_parts : (p : ℤ) → ((whole p).num ≡ p) × ((whole p).den ≡ 1)
whole_parts p =
    let e : whole p ≡ made p 1 (lit_one, gcd-one (nat_abs p)) = sym (ℚ_is (made p 1 (lit_one, gcd-one (nat_abs p)))) in
    (ap (λ (x : ℚ). x.num) e, ap (λ (x : ℚ). x.den) e)

-- ---- the parts of a quotient, and sizes
pub frac-num_le : (z : ℤ) (d : ℕ) → 0 < d → nat_abs (frac z d).num ≤ nat_abs z
unfolding frac
frac-num_le z zero o = absurd (omega arith)
frac-num_le z (suc n) o = rw (abs-div z _) (div-le_self (nat_abs z) _)

pub small_product : (m n a b : ℕ) → m ≤ a → n ≤ b → a * b < 2 ^ 127 → m * n < 2 ^ 127
small_product m n a b h k l = omega (arith, mul-le-mul h k)

pub Within-more : (n a b : ℕ) (x : ℚ) → a ≤ b → Within n a x → Within n b x
Within-more n a b x l w = record { divides = w.divides; size = omega (arith, mul-le-mul_right x.den l, w.size) }

-- a whole number that is not 0 is no fraction that is 0
pub whole_nonzero : (z : ℤ) → (z ≡ pos 0 → ⊥) → whole z ≡ whole (pos 0) → ⊥
whole_nonzero z n e = n (sym (whole_parts z).0 ∙ ap (λ (q : ℚ). q.num) e ∙ (whole_parts (pos 0)).0)

pub mul_fits_small : (x y : ℚ) → nat_abs x.num * nat_abs y.num < 2 ^ 127 → x.den * y.den < 2 ^ 127 → mul_fits x y ≡ true
unfolding mul_fits
mul_fits_small x y p q =
    let g = gcd (nat_abs x.num) y.den in
    let h = gcd (nat_abs y.num) x.den in
    let n : nat_abs (int_div x.num (pos g) *ℤ int_div y.num (pos h)) < 2 ^ 127 =
    rw (unsigned_abs-mul (int_div x.num (pos g)) (int_div y.num (pos h)), abs-div x.num g, abs-div y.num h)
    (omega (arith, mul-le-mul (div-le_self (nat_abs x.num) g) (div-le_self (nat_abs y.num) h))) in
    let d : x.den / h * (y.den / g) < 2 ^ 127 = omega (arith, mul-le-mul (div-le_self x.den h) (div-le_self y.den g)) in
    rw (is_small_from _ n) (lt-ltb _ _ d)

num_le : (m n a d : ℕ) → 0 < n → 0 < d → d ∣ n → m * n ≤ a * d → m ≤ a
num_le m n a d o p q h =
    let l = le_of_dvd o q in
    le_of_mul-le-mul_right (let k : m * n ≤ a * n = omega (arith, mul-le-mul_left a l) in k) o

-- a product with a whole number that cannot be cramped
pub mul_fits_within : (x : ℚ) (p : ℤ) (n a b : ℕ) → 0 < n → n < 2 ^ 127 → a * b < 2 ^ 127 → Within n a x → nat_abs p ≤ b → mul_fits x (whole p) ≡ true
mul_fits_within x p n a b o q r u h =
    let w = whole_parts p in
    mul_fits_small x (whole p)
    (rw w.0 (omega (arith, mul-le-mul (num_le (nat_abs x.num) n a x.den o x.lowest.0 u.divides u.size) h)))
    (rw w.1 (omega (arith, le_of_dvd o u.divides)))

-- and its bounds
pub Within-*ℚ : (x : ℚ) (p : ℤ) (n a b : ℕ) → 0 < n → Within n a x → nat_abs p ≤ b → Within n (a * b) (x *ℚ whole p)
Within-*ℚ x p n a b o u h =
    let i = x.lowest.0 in
    let e : frac (x.num *ℤ p) (x.den * 1) ≡ x *ℚ whole p = sym (ap (λ y. y *ℚ whole p) (ℚ_is x) ∙ frac-*ℚ x.num p x.den 1 i lit_one) in
    subst (Within n (a * b)) e record {
      divides = dvd_trans _ (frac_den (x.num *ℤ p) (x.den * 1) positive) (rw mul-one u.divides);
      size = lowered (nat_abs (x.num *ℤ p)) n (a * b) (x.den * 1) _ _ positive
          (rw (unsigned_abs-mul x.num p) (sized (nat_abs x.num) (nat_abs p) n a b x.den u.size h))
          (sym (unsigned_abs-mul (frac (x.num *ℤ p) (x.den * 1)).num (pos (x.den * 1))) ∙ ap nat_abs (frac_is (x.num *ℤ p) (x.den * 1) positive) ∙ unsigned_abs-mul (x.num *ℤ p) (pos (frac (x.num *ℤ p) (x.den * 1)).den));
    }
  where
    positive : 0 < x.den * 1
    positive = mul-pos x.lowest.0 lit_one

    sized : (m q n a b d : ℕ) → m * n ≤ a * d → q ≤ b → m * q * n ≤ a * b * (d * 1)
    sized m q n a b d h k = omega (arith, mul-le-mul_right q h, mul-le-mul_left (a * d) k)
