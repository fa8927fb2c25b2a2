-- Numbers that are scaled.
use Rattle.std.proofs.Common.{◌≡◌, ℕ, zero, suc, ◌*◌, ◌<◌, ◌≤◌, ◌^◌, arith, ap, sym, ◌∙◌, Option, Some, None}
use Rattle.std.specs.Prelude.{ℤ, pos, negsuc, nat_abs, ◌*ℤ◌, int_lt, IfSome}
use Rattle.std.specs.Bool.{one_answer}
use Rattle.std.specs.Ordering.{is_lt, is_eq}
use Rattle.std.proofs.Math.Nat.{mul-pos, mul-le-mul}
use Rattle.std.proofs.lemmas.Int.{ints}
use Rattle.fraction.specs.Checked.{abs_ℚ, compare, div_checked, mul_checked}
use Rattle.fraction.specs.Lemmas.Bounds.{value_from_mul}
use Rattle.fraction.specs.Lemmas.Integers.{diff-mul, diff-pos, diff-same, is_diff, le-mul_ℤ, mul-le_ℤ}
use Rattle.fraction.specs.Lemmas.Order.{compare_equal}
use Rattle.fraction.specs.Lemmas.Rational.{frac-*ℚ, frac_same, lit_one, ℚ_is, zero-*ℚ, one-*ℚ, *ℚ_comm, *ℚ_assoc, abs-times}
use Rattle.fraction.specs.Lemmas.Ring.{+ℚ-mul, ring_ℚ}
use Rattle.fraction.specs.Rational.{ℚ, frac, inv_ℚ, whole, ◌*ℚ◌, ◌+ℚ◌}
use Rattle.tableau.specs.Elimination.{zero_ℚ}
use Rattle.integer_tableau.specs.Range.{size_limit}
use Rattle.integer_tableau.specs.Scales.{scaled_by}
use Rattle.fraction.specs.Lemmas.Order.{above_zero, below_zero}
use Rattle.integer_tableau.specs.Lemmas.Comparing.{abs-frac, less_frac}
use Rattle.fraction.specs.Lemmas.Integers.{same_less}
use Rattle.integer_tableau.specs.Lemmas.Fractions.{inv-frac, mul_frac}

pub scaled_frac : (a b : ℕ) (z : ℤ) (d : ℕ) → 0 < b → 0 < d → scaled_by a b (frac z d) ≡ frac (z *ℤ pos a) (d * b)
unfolding scaled_by
scaled_frac a b z d o p = frac-*ℚ z (pos a) d b p o

pub scaled_is : (a b : ℕ) (x : ℚ) → 0 < b → scaled_by a b x ≡ frac (x.num *ℤ pos a) (x.den * b)
scaled_is a b x o = ap (scaled_by a b) (ℚ_is x) ∙ scaled_frac a b x.num x.den o x.lowest.0

-- a product with one over b, where it is there
pub over_is : (b : ℕ) (x : ℚ) (o : Option ℚ) → o ≡ mul_checked x (frac (pos 1) b) → IfSome o (λ q. q ≡ scaled_by 1 b x)
unfolding scaled_by
over_is b x None e = tt
over_is b x (Some q) e = sym (value_from_mul x (frac (pos 1) b) q (sym e))

pub scaled_zero : (a b : ℕ) → scaled_by a b zero_ℚ ≡ zero_ℚ
unfolding scaled_by
scaled_zero a b = zero-*ℚ (frac (pos a) b)

pub scaled_sum : (a b : ℕ) (x y : ℚ) → scaled_by a b (x +ℚ y) ≡ scaled_by a b x +ℚ scaled_by a b y
unfolding scaled_by
scaled_sum a b x y = +ℚ-mul x y (frac (pos a) b)

pub scaled_self : (a : ℕ) (x : ℚ) → 0 < a → scaled_by a a x ≡ x
unfolding scaled_by
scaled_self a x o = ap (λ y. x *ℚ y) (frac_same (pos a) (pos 1) a 1 o lit_one (omega (arith, ints))) ∙ *ℚ_comm x (whole (pos 1)) ∙ one-*ℚ x

factors : (a b c : ℕ) → 0 < b → 0 < c → frac (pos c) b *ℚ frac (pos a) c ≡ frac (pos a) b
factors a b c o p = frac-*ℚ (pos c) (pos a) b c o p ∙ frac_same _ _ _ _ (mul-pos o p) o (swapped a b c)
  where
    swapped : (a b c : ℕ) → (pos c *ℤ pos a) *ℤ pos b ≡ pos a *ℤ pos (b * c)
    swapped a b c = ap pos (omega arith)

turned : (x y f g : ℚ) → (x *ℚ f) *ℚ (y *ℚ g) ≡ (x *ℚ y) *ℚ (f *ℚ g)
turned x y f g = simp ring_ℚ

-- a product: the unit of the middle falls out
pub scaled_product : (a b c : ℕ) (x y : ℚ) → 0 < b → 0 < c → scaled_by c b x *ℚ scaled_by a c y ≡ scaled_by a b (x *ℚ y)
unfolding scaled_by
scaled_product a b c x y o p = turned x y (frac (pos c) b) (frac (pos a) c) ∙ ap (λ z. (x *ℚ y) *ℚ z) (factors a b c o p)

-- ---- order
times_less : (x y : ℤ) (m : ℕ) → 0 < m → int_lt (x *ℤ pos m) (y *ℤ pos m) ≡ int_lt x y
times_less x y m o = same_less x y (x *ℤ pos m) (y *ℤ pos m) (λ h. mul-le_ℤ y x m h) (λ h. le-mul_ℤ y x m o h)

regrouped : (x : ℤ) (a b d : ℕ) → (x *ℤ pos a) *ℤ pos (d * b) ≡ (x *ℤ pos d) *ℤ pos (a * b)
regrouped x a b d = rw (is_diff x) (simp (diff-pos, diff-mul) (diff-same _ _ _ _ (omega arith)))

comparing : (x y : ℤ) (a b c d : ℕ) → 0 < a → 0 < b → int_lt ((x *ℤ pos a) *ℤ pos (d * b)) ((y *ℤ pos a) *ℤ pos (c * b)) ≡ int_lt (x *ℤ pos d) (y *ℤ pos c)
comparing x y a b c d o p = (λ i. int_lt (regrouped x a b d i) (regrouped y a b c i)) ∙ times_less (x *ℤ pos d) (y *ℤ pos c) (a * b) (mul-pos o p)

pub scaled_less : (a b : ℕ) (x y : ℚ) → 0 < a → 0 < b → is_lt (compare (scaled_by a b x) (scaled_by a b y)) ≡ is_lt (compare x y)
scaled_less a b x y o p =
    (λ i. is_lt (compare (scaled_is a b x p i) (scaled_is a b y p i)))
    ∙ less_frac (x.num *ℤ pos a) (y.num *ℤ pos a) (x.den * b) (y.den * b) (mul-pos x.lowest.0 p) (mul-pos y.lowest.0 p)
    ∙ comparing x.num y.num a b x.den y.den o p
    ∙ sym (less_frac x.num y.num x.den y.den x.lowest.0 y.lowest.0)
    ∙ (λ i. is_lt (compare (sym (ℚ_is x) i) (sym (ℚ_is y) i)))

-- equality
scaled_back : (a b : ℕ) (x : ℚ) → 0 < a → 0 < b → scaled_by b a (scaled_by a b x) ≡ x
unfolding scaled_by
scaled_back a b x o p =
    *ℚ_assoc x (frac (pos a) b) (frac (pos b) a)
    ∙ ap (λ y. x *ℚ y) (factors b b a p o ∙ frac_same (pos b) (pos 1) b 1 p lit_one (omega (arith, ints)))
    ∙ *ℚ_comm x (whole (pos 1)) ∙ one-*ℚ x

pub scaled_equal : (a b : ℕ) (x y : ℚ) → 0 < a → 0 < b → is_eq (compare (scaled_by a b x) (scaled_by a b y)) ≡ is_eq (compare x y)
scaled_equal a b x y o p = one_answer _ _ (
  (λ e. sym (scaled_back a b x o p) ∙ ap (scaled_by b a) ((compare_equal (scaled_by a b x) (scaled_by a b y)).0 e) ∙ scaled_back a b y o p),
  (λ e. (compare_equal (scaled_by a b x) (scaled_by a b y)).1 (ap (scaled_by a b) e)),
)
    (compare_equal x y)

-- ---- signs
times_sign : (z : ℤ) (a : ℕ) → 0 < a → (int_lt (pos 0) (z *ℤ pos a) ≡ int_lt (pos 0) z) × (int_lt (z *ℤ pos a) (pos 0) ≡ int_lt z (pos 0))
times_sign z a o =
    let e : pos 0 ≡ pos 0 *ℤ pos a = ap pos (omega arith) in
    (ap (λ y. int_lt y (z *ℤ pos a)) e ∙ times_less (pos 0) z a o, ap (λ y. int_lt (z *ℤ pos a) y) e ∙ times_less z (pos 0) a o)

pub scaled_above : (a b : ℕ) (x : ℚ) → 0 < a → 0 < b → int_lt (pos 0) (scaled_by a b x).num ≡ int_lt (pos 0) x.num
scaled_above a b x o p =
    ap (λ (y : ℚ). int_lt (pos 0) y.num) (scaled_is a b x p) ∙ above_zero (x.num *ℤ pos a) (x.den * b) (mul-pos x.lowest.0 p) ∙ (times_sign x.num a o).0

pub scaled_below : (a b : ℕ) (x : ℚ) → 0 < a → 0 < b → int_lt (scaled_by a b x).num (pos 0) ≡ int_lt x.num (pos 0)
scaled_below a b x o p =
    ap (λ (y : ℚ). int_lt y.num (pos 0)) (scaled_is a b x p) ∙ below_zero (x.num *ℤ pos a) (x.den * b) (mul-pos x.lowest.0 p) ∙ (times_sign x.num a o).1

-- ---- ratios
-- the ratio of a reduced cost to a coefficient: the unit of their variable falls out
pub ratio_scaled : (a b : ℤ) (d k s r : ℕ) → 0 < d → 0 < k → 0 < s → 0 < r → nat_abs a * k ≤ size_limit → nat_abs b * k ≤ size_limit → 0 < nat_abs b → d * s < size_limit → d * r < size_limit
    → div_checked (abs_ℚ (scaled_by k s (frac a d))) (abs_ℚ (scaled_by k r (frac b d))) ≡ Some (scaled_by r s (frac (pos (nat_abs a)) (nat_abs b)))
ratio_scaled a b d k s r od ok os or ha hb ob hs hr =
    (λ i. mul_checked (top i) (inv_ℚ (bottom i)))
    ∙ ap (mul_checked (frac (pos (nat_abs a * k)) (d * s))) (inv-frac (pos (nat_abs b * k)) (d * r) pr pb)
    ∙ mul_frac (pos (nat_abs a * k)) (pos (d * r)) (d * s) (nat_abs b * k) (mul-pos od os) pb (omega (arith, sizes (nat_abs a * k) (d * r) ha hr)) (omega (arith, sizes (nat_abs b * k) (d * s) hb hs))
    ∙ ap Some (frac_same _ _ _ _ (mul-pos (mul-pos od os) pb) (mul-pos ob os) (same (nat_abs a) (nat_abs b) d k s r) ∙ sym (scaled_frac r s (pos (nat_abs a)) (nat_abs b) os ob))
  where
    pr : 0 < d * r
    pr = mul-pos od or

    pb : 0 < nat_abs b * k
    pb = mul-pos ob ok

    top : abs_ℚ (scaled_by k s (frac a d)) ≡ frac (pos (nat_abs a * k)) (d * s)
    top = ap abs_ℚ (scaled_frac k s a d os od) ∙ abs-frac (a *ℤ pos k) (d * s) (mul-pos od os) ∙ ap (λ n. frac (pos n) (d * s)) (abs-times a k)

    bottom : abs_ℚ (scaled_by k r (frac b d)) ≡ frac (pos (nat_abs b * k)) (d * r)
    bottom = ap abs_ℚ (scaled_frac k r b d or od) ∙ abs-frac (b *ℤ pos k) (d * r) (mul-pos od or) ∙ ap (λ n. frac (pos n) (d * r)) (abs-times b k)

    sizes : (m n : ℕ) → m ≤ size_limit → n < size_limit → m * n ≤ 2 ^ 124
    sizes m n h l = let g : n ≤ size_limit = omega arith in omega (arith, mul-le-mul h g)

    same : (a b d k s r : ℕ) → (pos (a * k) *ℤ pos (d * r)) *ℤ pos (b * s) ≡ (pos a *ℤ pos r) *ℤ pos (d * s * (b * k))
    same a b d k s r = ap pos (omega arith)

pub nonzero_scaled : (a b : ℕ) (x : ℚ) → 0 < a → 0 < b → 0 < nat_abs x.num → 0 < nat_abs (scaled_by a b x).num
nonzero_scaled a b x o p h = positive (scaled_by a b x).num x.num (scaled_above a b x o p) (scaled_below a b x o p) h
  where
    positive : (y z : ℤ) → int_lt (pos 0) y ≡ int_lt (pos 0) z → int_lt y (pos 0) ≡ int_lt z (pos 0) → 0 < nat_abs z → 0 < nat_abs y
    positive (pos zero) (pos zero) e f h = absurd (omega arith)
    positive (pos zero) (pos (suc z)) e f h = absurd (grind (arith, ints))
    positive (pos zero) (negsuc z) e f h = absurd (grind (arith, ints))
    positive (pos (suc y)) z e f h = omega arith
    positive (negsuc y) z e f h = omega arith
