-- Lemmas: the rational numbers, as fractions in lowest terms.
use Rattle.std.proofs.Common.{◌≡◌, ℕ, zero, suc, ◌+◌, ◌*◌, ◌/◌, ◌≤◌, ◌<◌, arith, refl, ap, sym, ◌∙◌, subst}
use Rattle.std.specs.Prelude.{◌⊎◌, ℤ, pos, negsuc, ◌+ℤ◌, ◌*ℤ◌, neg_ℤ, ◌≤ℤ◌, int_div, nat_abs, ◌&&◌, eqb}
use Rattle.std.proofs.lemmas.Int.{ints, unsigned_abs-mul}
use Rattle.std.proofs.Math.Nat.{div-le_self, le-div_iff_mul-le, div-lt_iff_lt-mul, div-mul-le_self, lt-div-mul-add, pos_of_ne-zero, mul-pos, div-mul_cancel, mul-le-mul_right, le_of_mul-le-mul_right}
use Prim.Native.Nat.{◌∣◌}
use Rattle.fraction.specs.Lemmas.Gcd.{gcd_comm, coprime_mul_both, coprime_parts, quotient_dvd, gcd_is, gcd_pos, gcd-quotients, same_lowest}
use Rattle.fraction.specs.Gcd.{gcd}
use lib.IntN.{+ℤ_comm, *ℤ_comm}
use borrow.Author.Differences.{up, down}
use lib.Signed.{≤ℤ_refl}
use Rattle.fraction.specs.Lemmas.Integers.{mul-le_ℤ, le-mul_ℤ, read_le, write_le, mul_assoc_ℤ, add-mul_ℤ, is_diff, diff-add, diff-mul, diff-neg, diff-pos, diff-same, diff-le, cancel_ℤ, neg-mul_ℤ}
use Rattle.std.proofs.lemmas.Bool.Decides.{Decides-like, Decides-and, Decides-int_eq, Decides-eqb}
use Rattle.std.specs.Bool.{Decides}
use Rattle.std.specs.Ordering.{int_eq}
use native.Mathlib.Bridge.{le_prop}
use native.Mathlib.Nat.{ℕ_set}
use Rattle.fraction.specs.Lowest.{IsLowest}
use Rattle.fraction.specs.Lemmas.Lowest.{abs_neg, abs-div}
use Rattle.fraction.specs.Rational.{ℚ, frac, ◌+ℚ◌, ◌*ℚ◌, neg_ℚ, ◌≤ℚ◌, whole, floor_div, floor, ceil, signed_as, inv_ℚ, parts, of_parts}

pub IsLowest-prop : (z : ℤ) (d : ℕ) → IsProp (IsLowest z d)
IsLowest-prop z d = hlevel (le_prop, ℕ_set)

-- ---- equality
abbrev pub made : (z : ℤ) (d : ℕ) → IsLowest z d → ℚ
made z d l = record { num = z; den = d; lowest = l }

same_den : (z : ℤ) (d e : ℕ) → d ≡ e → (l : IsLowest z d) (m : IsLowest z e) → made z d l ≡ made z e m
same_den z d e p l = subst (λ e. (m : IsLowest z e) → made z d l ≡ made z e m) p (λ m. ap (made z d) (IsLowest-prop z d l m))

same_parts : (z y : ℤ) (d e : ℕ) → z ≡ y → d ≡ e → (l : IsLowest z d) (m : IsLowest y e) → made z d l ≡ made y e m
same_parts z y d e q p l = subst (λ y. (m : IsLowest y e) → made z d l ≡ made y e m) q (same_den z d e p l)

pub abs-times : (z : ℤ) (n : ℕ) → nat_abs (z *ℤ pos n) ≡ nat_abs z * n
abs-times z n = unsigned_abs-mul z (pos n)

-- equal fractions are one
pub ℚ_same : (x y : ℚ) → x.num *ℤ pos y.den ≡ y.num *ℤ pos x.den → x ≡ y
ℚ_same x y e =
    let a : nat_abs x.num * y.den ≡ nat_abs y.num * x.den = sym (abs-times x.num y.den) ∙ ap nat_abs e ∙ abs-times y.num x.den in
    let d : x.den ≡ y.den = same_lowest (nat_abs x.num) x.den (nat_abs y.num) y.den x.lowest.0 y.lowest.0 x.lowest.1 y.lowest.1 a in
    let n : x.num ≡ y.num = cancel_ℤ x.num y.num y.den y.lowest.0 (e ∙ ap (λ d. y.num *ℤ pos d) d) in
    same_parts x.num y.num x.den y.den n d x.lowest y.lowest

pub same_by_parts : (x y : ℚ) → x.num ≡ y.num → x.den ≡ y.den → x ≡ y
same_by_parts x y n d = ℚ_same x y (λ i. n i *ℤ pos (sym d i))

-- ---- what `frac` is
div-exact : (z : ℤ) (g : ℕ) → g ∣ nat_abs z → int_div z (pos g) *ℤ pos g ≡ z
div-exact (pos a) g d = ap pos (div-mul_cancel g d)
div-exact (negsuc a) g d = neg-mul_ℤ (pos (suc a / g)) (pos g) ∙ ap (λ n. neg_ℤ (pos n)) (div-mul_cancel g d)

scaled : (n z : ℤ) (e d g : ℕ) → n *ℤ pos g ≡ z → e * g ≡ d → n *ℤ pos d ≡ z *ℤ pos e
scaled n z e d g p q = rw (← p, ← q) (rw (is_diff n) (simp (diff-pos, diff-mul) (diff-same _ _ _ _ (omega arith))))

pub frac_is : (z : ℤ) (d : ℕ) → 0 < d → (frac z d).num *ℤ pos d ≡ z *ℤ pos (frac z d).den
unfolding frac
frac_is z zero h = absurd (omega arith)
frac_is z (suc n) h =
    let i = gcd_is (nat_abs z) (suc n) in
    scaled _ z _ (suc n) _ (div-exact z _ i.0) (div-mul_cancel _ i.1)

-- the product of a number with three naturals, in another order
turned : (z : ℤ) (f c d : ℕ) → z *ℤ pos f *ℤ pos (c * d) ≡ z *ℤ pos c *ℤ pos (f * d)
turned z f c d = rw (is_diff z) (simp (diff-pos, diff-mul) (diff-same _ _ _ _ (omega arith)))

turned_last : (z : ℤ) (f c d : ℕ) → z *ℤ pos f *ℤ pos (c * d) ≡ z *ℤ pos d *ℤ pos (f * c)
turned_last z f c d = rw (is_diff z) (simp (diff-pos, diff-mul) (diff-same _ _ _ _ (omega arith)))

cross : (a b p q : ℤ) (c d e f : ℕ) → 0 < c → 0 < d → p *ℤ pos c ≡ a *ℤ pos e → q *ℤ pos d ≡ b *ℤ pos f → a *ℤ pos d ≡ b *ℤ pos c → p *ℤ pos f ≡ q *ℤ pos e
cross a b p q c d e f l m g h k = cancel_ℤ _ _ (c * d) (mul-pos l m)
    (turned p f c d ∙ ap (λ z. z *ℤ pos (f * d)) g ∙ turned_last a e f d ∙ ap (λ z. z *ℤ pos (e * f)) k
    ∙ turned_last b c e f ∙ ap (λ z. z *ℤ pos (c * e)) (sym h) ∙ turned_last q d c e ∙ ap (λ n. q *ℤ pos e *ℤ pos n) (omega arith))

pub frac_same : (a b : ℤ) (c d : ℕ) → 0 < c → 0 < d → a *ℤ pos d ≡ b *ℤ pos c → frac a c ≡ frac b d
frac_same a b c d p q e = ℚ_same (frac a c) (frac b d) (cross a b _ _ c d _ _ p q (frac_is a c p) (frac_is b d q) e)

pub ℚ_is : (x : ℚ) → x ≡ frac x.num x.den
ℚ_is x = ℚ_same x (frac x.num x.den) (sym (frac_is x.num x.den x.lowest.0))

-- each operation at fractions
lifted : (a p : ℤ) (c d e f : ℕ) → p *ℤ pos c ≡ a *ℤ pos e → p *ℤ pos f *ℤ pos (c * d) ≡ a *ℤ pos d *ℤ pos (e * f)
lifted a p c d e f g = turned p f c d ∙ ap (λ z. z *ℤ pos (f * d)) g ∙ turned_last a e f d

lifted_last : (b q : ℤ) (c d e f : ℕ) → q *ℤ pos d ≡ b *ℤ pos f → q *ℤ pos e *ℤ pos (c * d) ≡ b *ℤ pos c *ℤ pos (e * f)
lifted_last b q c d e f h = turned_last q e c d ∙ ap (λ z. z *ℤ pos (e * c)) h ∙ turned_last b f e c ∙ ap (λ n. b *ℤ pos c *ℤ pos n) (omega arith)

add_by : (a b p q : ℤ) (c d e f : ℕ) → p *ℤ pos c ≡ a *ℤ pos e → q *ℤ pos d ≡ b *ℤ pos f
    → (p *ℤ pos f +ℤ q *ℤ pos e) *ℤ pos (c * d) ≡ (a *ℤ pos d +ℤ b *ℤ pos c) *ℤ pos (e * f)
add_by a b p q c d e f g h =
    add-mul_ℤ (p *ℤ pos f) (q *ℤ pos e) (pos (c * d))
    ∙ (λ i. lifted a p c d e f g i +ℤ lifted_last b q c d e f h i) ∙ sym (add-mul_ℤ (a *ℤ pos d) (b *ℤ pos c) (pos (e * f)))

pub frac-+ℚ : (a b : ℤ) (c d : ℕ) → 0 < c → 0 < d → frac a c +ℚ frac b d ≡ frac (a *ℤ pos d +ℤ b *ℤ pos c) (c * d)
unfolding ◌+ℚ◌
frac-+ℚ a b c d p q = frac_same _ _ _ _ (mul-pos (frac a c).lowest.0 (frac b d).lowest.0) (mul-pos p q) (add_by a b _ _ c d _ _ (frac_is a c p) (frac_is b d q))

-- over one denominator the numerators are added
summed : (a b : ℤ) (d : ℕ) → (a *ℤ pos d +ℤ b *ℤ pos d) *ℤ pos d ≡ (a +ℤ b) *ℤ pos (d * d)
summed a b d = rw (is_diff a, is_diff b) (simp (diff-pos, diff-mul, diff-add) (diff-same _ _ _ _ (omega arith)))

pub frac-+ℚ_over_one : (a b : ℤ) (d : ℕ) → 0 < d → frac a d +ℚ frac b d ≡ frac (a +ℤ b) d
frac-+ℚ_over_one a b d o = frac-+ℚ a b d d o o ∙ frac_same _ _ _ _ (mul-pos o o) o (summed a b d)

pairs : (p q : ℤ) (c d : ℕ) → (p *ℤ q) *ℤ pos (c * d) ≡ (p *ℤ pos c) *ℤ (q *ℤ pos d)
pairs p q c d = rw (is_diff p, is_diff q) (simp (diff-pos, diff-mul) (diff-same _ _ _ _ (omega arith)))

mul_by : (a b p q : ℤ) (c d e f : ℕ) → p *ℤ pos c ≡ a *ℤ pos e → q *ℤ pos d ≡ b *ℤ pos f
    → (p *ℤ q) *ℤ pos (c * d) ≡ (a *ℤ b) *ℤ pos (e * f)
mul_by a b p q c d e f g h = pairs p q c d ∙ (λ i. g i *ℤ h i) ∙ sym (pairs a b e f)

pub frac-*ℚ : (a b : ℤ) (c d : ℕ) → 0 < c → 0 < d → frac a c *ℚ frac b d ≡ frac (a *ℤ b) (c * d)
unfolding ◌*ℚ◌
frac-*ℚ a b c d p q = frac_same _ _ _ _ (mul-pos (frac a c).lowest.0 (frac b d).lowest.0) (mul-pos p q) (mul_by a b _ _ c d _ _ (frac_is a c p) (frac_is b d q))

neg_by : (a p : ℤ) (c e : ℕ) → p *ℤ pos c ≡ a *ℤ pos e → neg_ℤ p *ℤ pos c ≡ neg_ℤ a *ℤ pos e
neg_by a p c e g = neg-mul_ℤ p (pos c) ∙ ap neg_ℤ g ∙ sym (neg-mul_ℤ a (pos e))

pub neg_ℚ-frac : (a : ℤ) (c : ℕ) → 0 < c → neg_ℚ (frac a c) ≡ frac (neg_ℤ a) c
unfolding neg_ℚ
neg_ℚ-frac a c p = frac_same _ _ _ _ (frac a c).lowest.0 p (neg_by a _ c _ (frac_is a c p))

-- ---- the laws
pub lit_one : 0 < 1
lit_one = omega arith

ruleset opened = (lit_one, frac-+ℚ, frac-*ℚ, neg_ℚ-frac, mul-pos)

ruleset ring = (diff-pos, diff-mul, diff-add, diff-neg)

at_parts : (a b : ℤ) (c d : ℕ) → a ≡ b → c ≡ d → frac a c ≡ frac b d
at_parts a b c d p q = λ i. frac (p i) (q i)

at_scaled : (a b : ℤ) (c d k : ℕ) → 0 < c → 0 < k → b ≡ a *ℤ pos k → d ≡ c * k → frac b d ≡ frac a c
at_scaled a b c d k p q e f = rw (e, f) (frac_same _ _ _ _ (mul-pos p q) p (rw (is_diff a) (simp (diff-pos, diff-mul) (diff-same _ _ _ _ (omega arith)))))

add_assoc_by : (a b c : ℤ) (d e f : ℕ) → (a *ℤ pos e +ℤ b *ℤ pos d) *ℤ pos f +ℤ c *ℤ pos (d * e) ≡ a *ℤ pos (e * f) +ℤ (b *ℤ pos f +ℤ c *ℤ pos e) *ℤ pos d
add_assoc_by a b c d e f = rw (is_diff a, is_diff b, is_diff c) (simp ring (diff-same _ _ _ _ (omega arith)))

pub +ℚ_assoc : (x y z : ℚ) → (x +ℚ y) +ℚ z ≡ x +ℚ (y +ℚ z)
+ℚ_assoc x y z =
    let p = x.lowest.0 in let q = y.lowest.0 in let r = z.lowest.0 in
    rw (ℚ_is x, ℚ_is y, ℚ_is z) (simp opened (at_parts _ _ _ _ (add_assoc_by x.num y.num z.num x.den y.den z.den) (omega arith)))

pub +ℚ_comm : (x y : ℚ) → x +ℚ y ≡ y +ℚ x
unfolding ◌+ℚ◌
+ℚ_comm x y = at_parts _ _ _ _ (+ℤ_comm (x.num *ℤ pos y.den) (y.num *ℤ pos x.den)) (omega arith)

pub *ℚ_comm : (x y : ℚ) → x *ℚ y ≡ y *ℚ x
unfolding ◌*ℚ◌
*ℚ_comm x y = at_parts _ _ _ _ (*ℤ_comm x.num y.num) (omega arith)

pub *ℚ_assoc : (x y z : ℚ) → (x *ℚ y) *ℚ z ≡ x *ℚ (y *ℚ z)
*ℚ_assoc x y z =
    let p = x.lowest.0 in let q = y.lowest.0 in let r = z.lowest.0 in
    rw (ℚ_is x, ℚ_is y, ℚ_is z) (simp opened (at_parts _ _ _ _ (mul_assoc_ℤ x.num y.num z.num) (omega arith)))

spread : (a b c : ℤ) (d e f : ℕ) → (a *ℤ b) *ℤ pos (d * f) +ℤ (a *ℤ c) *ℤ pos (d * e) ≡ (a *ℤ (b *ℤ pos f +ℤ c *ℤ pos e)) *ℤ pos d
spread a b c d e f = rw (is_diff a, is_diff b, is_diff c) (simp ring (diff-same _ _ _ _ (omega arith)))

pub mul-+ℚ : (x y z : ℚ) → x *ℚ (y +ℚ z) ≡ x *ℚ y +ℚ x *ℚ z
mul-+ℚ x y z =
    let p = x.lowest.0 in let q = y.lowest.0 in let r = z.lowest.0 in
    rw (ℚ_is x, ℚ_is y, ℚ_is z) (simp opened (sym (at_scaled _ _ _ _ x.den (mul-pos p (mul-pos q r)) p (spread x.num y.num z.num x.den y.den z.den) (omega arith))))

pub zero-+ℚ : (x : ℚ) → whole (pos 0) +ℚ x ≡ x
zero-+ℚ x = let p = x.lowest.0 in rw (ℚ_is x) (simp opened (at_parts _ _ _ _ (omega (arith, ints)) (omega arith)))

pub one-*ℚ : (x : ℚ) → whole (pos 1) *ℚ x ≡ x
one-*ℚ x = let p = x.lowest.0 in rw (ℚ_is x) (simp opened (at_parts _ _ _ _ (omega (arith, ints)) (omega arith)))

pub zero-*ℚ : (x : ℚ) → whole (pos 0) *ℚ x ≡ whole (pos 0)
zero-*ℚ x = let p = x.lowest.0 in rw (ℚ_is x) (simp opened (at_scaled (pos 0) _ 1 _ x.den lit_one p (omega (arith, ints)) (omega arith)))

pub neg-+ℚ : (x : ℚ) → neg_ℚ x +ℚ x ≡ whole (pos 0)
neg-+ℚ x = let p = x.lowest.0 in rw (ℚ_is x) (simp opened (at_scaled (pos 0) _ 1 _ (x.den * x.den) lit_one (mul-pos p p) (gone x.num x.den) (omega arith)))
  where
    gone : (a : ℤ) (d : ℕ) → neg_ℤ a *ℤ pos d +ℤ a *ℤ pos d ≡ pos 0 *ℤ pos (d * d)
    gone a d = rw (is_diff a) (simp ring (diff-same _ _ _ _ (omega arith)))

-- ---- the order
pub ≤ℚ_refl : (x : ℚ) → x ≤ℚ x
unfolding ◌≤ℚ◌
≤ℚ_refl x = ≤ℤ_refl _

pub ≤ℚ_trans : (x y z : ℚ) → x ≤ℚ y → y ≤ℚ z → x ≤ℚ z
unfolding ◌≤ℚ◌
≤ℚ_trans x y z h k = chained x.num y.num z.num x.den y.den z.den y.lowest.0 h k
  where
    steps : (p q r s t u d e f : ℕ) → p * e + s * d ≤ r * d + q * e → r * f + u * e ≤ t * e + s * f → (p * f + u * d) * e ≤ (t * d + q * f) * e
    steps p q r s t u d e f h k = omega (arith, mul-le-mul_right f h, mul-le-mul_right d k)

    chained : (a b c : ℤ) (d e f : ℕ) → 0 < e → (a *ℤ pos e) ≤ℤ (b *ℤ pos d) → (b *ℤ pos f) ≤ℤ (c *ℤ pos e) → (a *ℤ pos f) ≤ℤ (c *ℤ pos d)
    chained a b c d e f o h k = write_le a c d f
        (le_of_mul-le-mul_right (let w = steps (up a) (down a) (up b) (down b) (up c) (down c) d e f (read_le a b d e h) (read_le b c e f k) in omega arith) o)

pub ≤ℚ_antisymm : (x y : ℚ) → x ≤ℚ y → y ≤ℚ x → x ≡ y
unfolding ◌≤ℚ◌
≤ℚ_antisymm x y h k = ℚ_same x y (omega (arith, ints))

pub ≤ℚ_total : (x y : ℚ) → (x ≤ℚ y) ⊎ (y ≤ℚ x)
unfolding ◌≤ℚ◌
≤ℚ_total x y = grind (arith, ints)

-- the order of two fractions, whatever they are written as
pub frac-≤ℚ : (a b : ℤ) (c d : ℕ) → 0 < c → 0 < d → (a *ℤ pos d) ≤ℤ (b *ℤ pos c) → frac a c ≤ℚ frac b d
unfolding ◌≤ℚ◌
frac-≤ℚ a b c d p q h =
    let x = frac a c in
    let y = frac b d in
    let k = mul-le_ℤ _ _ (x.den * y.den) h in
    le-mul_ℤ _ _ (c * d) (mul-pos p q)
    (rw (lifted a x.num c d x.den y.den (frac_is a c p), lifted_last b y.num c d x.den y.den (frac_is b d q)) k)

pub ≤ℚ_frac : (a b : ℤ) (c d : ℕ) → 0 < c → 0 < d → frac a c ≤ℚ frac b d → (a *ℤ pos d) ≤ℤ (b *ℤ pos c)
unfolding ◌≤ℚ◌
≤ℚ_frac a b c d p q h =
    let x = frac a c in
    let y = frac b d in
    let k = mul-le_ℤ _ _ (c * d) h in
    le-mul_ℤ _ _ (x.den * y.den) (mul-pos x.lowest.0 y.lowest.0)
    (rw (lifted a x.num c d x.den y.den (frac_is a c p), lifted_last b y.num c d x.den y.den (frac_is b d q)) at k)

sum_le : (a b c : ℤ) (d e f : ℕ) → (a *ℤ pos e) ≤ℤ (b *ℤ pos d) → ((a *ℤ pos f +ℤ c *ℤ pos d) *ℤ pos (e * f)) ≤ℤ ((b *ℤ pos f +ℤ c *ℤ pos e) *ℤ pos (d * f))
sum_le a b c d e f h =
    let k = mul-le-mul_right (f * f) (read_le a b d e h) in
    rw (is_diff a, is_diff b, is_diff c) (simp ring (diff-le _ _ _ _ (omega arith)))

pub +ℚ-≤ℚ : (x y z : ℚ) → x ≤ℚ y → (x +ℚ z) ≤ℚ (y +ℚ z)
unfolding ◌≤ℚ◌ ◌+ℚ◌
+ℚ-≤ℚ x y z h = frac-≤ℚ _ _ _ _ (mul-pos x.lowest.0 z.lowest.0) (mul-pos y.lowest.0 z.lowest.0) (sum_le x.num y.num z.num x.den y.den z.den h)

natural_le : (a b : ℤ) (k d e f : ℕ) → (a *ℤ pos e) ≤ℤ (b *ℤ pos d) → ((pos k *ℤ a) *ℤ pos (f * e)) ≤ℤ ((pos k *ℤ b) *ℤ pos (f * d))
natural_le a b k d e f h =
    let g = mul-le-mul_right (k * f) (read_le a b d e h) in
    rw (is_diff a, is_diff b) (simp ring (diff-le _ _ _ _ (omega arith)))

product_le : (a b c : ℤ) (d e f : ℕ) → (pos 0 *ℤ pos f) ≤ℤ (c *ℤ pos 1) → (a *ℤ pos e) ≤ℤ (b *ℤ pos d) → ((c *ℤ a) *ℤ pos (f * e)) ≤ℤ ((c *ℤ b) *ℤ pos (f * d))
product_le a b (pos k) d e f o h = natural_le a b k d e f h
product_le a b (negsuc k) d e f o h = absurd (omega (arith, ints))

pub *ℚ-≤ℚ : (m x y : ℚ) → whole (pos 0) ≤ℚ m → x ≤ℚ y → (m *ℚ x) ≤ℚ (m *ℚ y)
unfolding ◌≤ℚ◌ ◌*ℚ◌
*ℚ-≤ℚ m x y o h = frac-≤ℚ _ _ _ _ (mul-pos m.lowest.0 x.lowest.0) (mul-pos m.lowest.0 y.lowest.0)
    (product_le x.num y.num m.num x.den y.den m.den (≤ℚ_frac (pos 0) m.num 1 m.den lit_one m.lowest.0 (rw (ℚ_is m) at o)) h)

pub floor_least : (z w : ℤ) (d : ℕ) → 0 < d → (w *ℤ pos d) ≤ℤ z → w ≤ℤ floor_div z d
floor_least (pos a) (pos b) d p h = let k = (le-div_iff_mul-le {k = d} {x = b} {y = a} p).1 (let e : b * d ≤ a = omega (arith, ints) in e) in omega (arith, ints)
floor_least (pos a) (negsuc b) d p h = omega (arith, ints)
floor_least (negsuc a) (pos b) d p h = absurd (omega (arith, ints))
floor_least (negsuc a) (negsuc b) d p h = let k = (div-lt_iff_lt-mul {k = d} {x = a} {y = suc b} p).1 (let e : a < suc b * d = omega (arith, ints) in e) in omega (arith, ints)

pub floor_below : (z : ℤ) (d : ℕ) → 0 < d → (floor_div z d *ℤ pos d) ≤ℤ z
floor_below (pos a) d p = omega (arith, ints, div-mul-le_self a d)
floor_below (negsuc a) d p = let k = lt-div-mul-add {a = a} p in let s : suc (a / d) * d ≡ a / d * d + d = omega arith in omega (arith, ints)

pub floor-≤ℚ : (x : ℚ) → whole (floor x) ≤ℚ x
unfolding floor
floor-≤ℚ x = subst (λ y. whole (floor_div x.num x.den) ≤ℚ y) (sym (ℚ_is x))
    (frac-≤ℚ _ _ _ _ lit_one x.lowest.0 (let k = floor_below x.num x.den x.lowest.0 in omega (arith, ints)))

-- a whole number that is at least x is at least its ceiling
pub ceil_least : (x : ℚ) (z : ℤ) → x ≤ℚ whole z → ceil x ≤ℤ z
unfolding ceil
ceil_least x z h =
    let k = ≤ℚ_frac x.num z x.den 1 x.lowest.0 lit_one (rw (ℚ_is x) at h) in
    let e : (neg_ℤ z *ℤ pos x.den) ≤ℤ neg_ℤ x.num = rw neg-mul_ℤ (omega (arith, ints)) in
    let m = floor_least (neg_ℤ x.num) (neg_ℤ z) x.den x.lowest.0 e in omega (arith, ints)

-- a fraction that is in lowest terms already
pub ℚ_at : (z y : ℤ) (d : ℕ) (l : IsLowest y d) → y ≡ z → made y d l ≡ frac z d
ℚ_at z y d l e = ℚ_is (made y d l) ∙ ap (λ z. frac z d) e

pub neg_ℚ_is : (x : ℚ) → neg_ℚ x ≡ frac (neg_ℤ x.num) x.den
unfolding neg_ℚ
neg_ℚ_is x = refl

pub quotient_is_small : (z : ℤ) (g n : ℕ) → nat_abs z < n → nat_abs (int_div z (pos g)) < n
quotient_is_small z g n h = rw (abs-div z g) (omega (arith, div-le_self (nat_abs z) g))

pub quotient_positive : (a d : ℕ) → 0 < d → 0 < d / gcd a d
quotient_positive a d h = positive d (gcd a d) h (gcd_is a d).1 (gcd_pos a d h)
  where
    positive : (d g : ℕ) → 0 < d → g ∣ d → 0 < g → 0 < d / g
    positive d g h i p = pos_of_ne-zero (λ e. omega (arith, h, div-mul_cancel g i, ap (λ n. n * g) e))

pub frac-reduced : (z : ℤ) (d : ℕ) → 0 < d → frac (int_div z (pos (gcd (nat_abs z) d))) (d / gcd (nat_abs z) d) ≡ frac z d
unfolding frac
frac-reduced z zero h = absurd (omega arith)
frac-reduced z (suc n) h = sym (ℚ_is (frac z (suc n)))

-- the sum over the least common denominator
over_by : (a b : ℤ) (p q c d g : ℕ) → p * g ≡ d → q * g ≡ c → a *ℤ pos d +ℤ b *ℤ pos c ≡ (a *ℤ pos p +ℤ b *ℤ pos q) *ℤ pos g
over_by a b p q c d g e f = rw (← e, ← f) (rw (is_diff a, is_diff b) (simp ring (diff-same _ _ _ _ (omega arith))))

pub +ℚ_over : (x y : ℚ) → frac (x.num *ℤ pos (y.den / gcd x.den y.den) +ℤ y.num *ℤ pos (x.den / gcd x.den y.den)) (x.den * (y.den / gcd x.den y.den)) ≡ x +ℚ y
unfolding ◌+ℚ◌
+ℚ_over x y =
    let g = gcd x.den y.den in
    let p = y.den / g in
    let q = x.den / g in
    let i = gcd_is x.den y.den in
    let e : p * g ≡ y.den = div-mul_cancel g i.1 in
    let f : q * g ≡ x.den = div-mul_cancel g i.0 in
    sym (at_scaled _ _ (x.den * p) _ g (mul-pos x.lowest.0 (quotient_positive x.den y.den y.lowest.0)) (gcd_pos x.den y.den y.lowest.0)
    (over_by x.num y.num p q x.den y.den g e f) (omega (arith, ap (λ n. x.den * n) e)))

-- a product after the factors are reduced against each other
module _ (x y : ℚ) where
  abbrev pub g : ℕ
  g = gcd (nat_abs x.num) y.den

  abbrev pub h : ℕ
  h = gcd (nat_abs y.num) x.den

  product_parts : (n m : ℤ) (b d : ℕ) (k l : ℕ) (n' m' : ℤ) (b' d' : ℕ) → n' *ℤ pos k ≡ n → m' *ℤ pos l ≡ m → b' * l ≡ b → d' * k ≡ d → (n *ℤ m ≡ n' *ℤ m' *ℤ pos (k * l)) × (b * d ≡ b' * d' * (k * l))
  product_parts n m b d k l n' m' b' d' p q r s =
      (rw (← p, ← q) (rw (is_diff n', is_diff m') (simp ring (diff-same _ _ _ _ (omega arith)))), rw (← r, ← s) (omega arith))

  pub *ℚ_over : frac (int_div x.num (pos g) *ℤ int_div y.num (pos h)) (x.den / h * (y.den / g)) ≡ x *ℚ y
  unfolding ◌*ℚ◌
  *ℚ_over =
      let i = gcd_is (nat_abs x.num) y.den in
      let j = gcd_is (nat_abs y.num) x.den in
      let e = product_parts x.num y.num x.den y.den g h _ _ _ _ (div-exact x.num g i.0) (div-exact y.num h j.0) (div-mul_cancel h j.1) (div-mul_cancel g i.1) in
      sym (at_scaled _ _ _ _ (g * h) (mul-pos (quotient_positive _ x.den x.lowest.0) (quotient_positive _ y.den y.lowest.0)) (mul-pos (gcd_pos _ _ y.lowest.0) (gcd_pos _ _ x.lowest.0)) e.0 e.1)

  pub *ℚ_lowest : IsLowest (int_div x.num (pos g) *ℤ int_div y.num (pos h)) (x.den / h * (y.den / g))
  *ℚ_lowest =
      let i = gcd_is (nat_abs x.num) y.den in
      let j = gcd_is (nat_abs y.num) x.den in (
        mul-pos (quotient_positive _ x.den x.lowest.0) (quotient_positive _ y.den y.lowest.0),
        rw (unsigned_abs-mul (int_div x.num (pos g)) (int_div y.num (pos h)), abs-div x.num g, abs-div y.num h)
            (coprime_mul_both _ _ _ _
            (coprime_parts _ _ _ _ (quotient_dvd _ _ i.0) (quotient_dvd _ _ j.1) x.lowest.1)
            (gcd-quotients _ _ y.lowest.0)
            (gcd-quotients _ _ x.lowest.0)
            (coprime_parts _ _ _ _ (quotient_dvd _ _ j.0) (quotient_dvd _ _ i.1) y.lowest.1)),
      )

pub frac_den : (z : ℤ) (d : ℕ) → 0 < d → (frac z d).den ∣ d
unfolding frac
frac_den z zero h = absurd (omega arith)
frac_den z (suc n) h = quotient_dvd (suc n) (gcd (nat_abs z) (suc n)) (gcd_is (nat_abs z) (suc n)).1

turned_over : (z : ℤ) (d : ℕ) → z *ℤ signed_as z d ≡ pos 1 *ℤ pos (d * nat_abs z)
turned_over (pos a) d = ap pos (omega arith)
turned_over (negsuc a) d = *ℤ_comm (negsuc a) (neg_ℤ (pos d)) ∙ neg-mul_ℤ (pos d) (negsuc a) ∙ twice_neg (d * suc a) ∙ ap pos (omega arith)
  where
    twice_neg : (n : ℕ) → neg_ℤ (neg_ℤ (pos n)) ≡ pos n
    twice_neg zero = refl
    twice_neg (suc n) = refl

pub mul-inv_ℚ : (x : ℚ) → 0 < nat_abs x.num → x *ℚ inv_ℚ x ≡ whole (pos 1)
unfolding inv_ℚ
mul-inv_ℚ x h =
    let p = x.lowest.0 in
    ap (λ y. y *ℚ frac (signed_as x.num x.den) (nat_abs x.num)) (ℚ_is x) ∙ frac-*ℚ x.num (signed_as x.num x.den) x.den (nat_abs x.num) p h
    ∙ at_scaled (pos 1) _ 1 _ (x.den * nat_abs x.num) lit_one (mul-pos p h) (turned_over x.num x.den) (omega arith)

pub divided : (p a b : ℚ) → 0 < nat_abs p.num → a *ℚ p ≡ b *ℚ p → a ≡ b
divided p a b h e = sym (back a) ∙ ap (λ z. z *ℚ inv_ℚ p) e ∙ back b
  where
    back : (z : ℚ) → (z *ℚ p) *ℚ inv_ℚ p ≡ z
    back z = *ℚ_assoc z p (inv_ℚ p) ∙ ap (λ w. z *ℚ w) (mul-inv_ℚ p h) ∙ *ℚ_comm z _ ∙ one-*ℚ z

pub abs-signed : (z : ℤ) (n : ℕ) → nat_abs (signed_as z n) ≡ n
abs-signed (pos z) n = refl
abs-signed (negsuc z) n = abs_neg n

pub inv_lowest : (z : ℤ) (d : ℕ) → 0 < nat_abs z → gcd (nat_abs z) d ≡ 1 → IsLowest (signed_as z d) (nat_abs z)
inv_lowest z d h e = (h, rw (abs-signed z d) (gcd_comm d (nat_abs z) ∙ e))

-- the test that code makes of two fractions
pub ℚ_equal : (x y : ℚ) → Decides (int_eq x.num y.num && eqb x.den y.den) (x ≡ y)
ℚ_equal x y =
    Decides-like _ (λ p. same_parts x.num y.num x.den y.den p.0 p.1 x.lowest y.lowest) (λ e. (ap (λ (z : ℚ). z.num) e, ap (λ (z : ℚ). z.den) e))
    (Decides-and (int_eq x.num y.num) (eqb x.den y.den) (Decides-int_eq x.num y.num) (Decides-eqb x.den y.den))

-- ---- the pair of the parts
pub of_parts-parts : (q : ℚ) → of_parts (parts q) ≡ q
of_parts-parts q = sym (ℚ_is q)
