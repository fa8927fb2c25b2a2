-- Sums and products of fractions whose parts have 63 bits.
use Rattle.std.proofs.Common.{◌≡◌, ℕ, ◌<◌, ◌≤◌, ◌*◌, ◌/◌, ◌^◌, ℤ, pos, true, ap, sym, ◌∙◌, arith, refl, Some}
use Rattle.std.specs.Prelude.{nat_abs, int_div, ◌+ℤ◌, ◌*ℤ◌}
use Prim.Native.Nat.{◌∣◌}
use Rattle.fraction.specs.Gcd.{gcd}
use Rattle.fraction.specs.Lemmas.Gcd.{gcd_is}
use Rattle.fraction.specs.Rational.{ℚ, frac, ◌+ℚ◌, ◌*ℚ◌}
use Rattle.fraction.specs.Lemmas.Rational.{made, ℚ_is, +ℚ_over, *ℚ_over, *ℚ_lowest}
use Rattle.fraction.specs.Lowest.{IsLowest}
use Rattle.std.proofs.Math.Nat.{mul-le-mul, div-le_self}
use Rattle.std.proofs.lemmas.Int.{ints, unsigned_abs-mul}
use borrow.Author.Tests.{lt-ltb}
use Rattle.fraction.specs.Checked.{add_fits, mul_checked, add_checked}
use Rattle.fraction.specs.Lemmas.Bounds.{is_small_from, mul_is, add_is, mul_fits_small}
use Rattle.fraction.proofs.Common.{shared_sum}

module _ (a c n m : ℤ) (b d s t g h u w e : ℕ) (q r k l p v : ℤ) (la : IsLowest a b) (lc : IsLowest c d) (en : n ≡ a) (em : m ≡ c)
    (es : s ≡ nat_abs n) (et : t ≡ nat_abs m) (eg : g ≡ gcd s d) (eh : h ≡ gcd t b) (eq : q ≡ int_div n (pos g)) (er : r ≡ int_div m (pos h))
    (ek : k ≡ q) (el : l ≡ r) (ep : p ≡ k *ℤ l) (ev : v ≡ p) (eu : u ≡ b / h) (ew : w ≡ d / g) (ee : e ≡ u * w) where
  left : g ≡ gcd (nat_abs a) d
  left = eg ∙ ap (λ s. gcd s d) (es ∙ ap nat_abs en)

  right : h ≡ gcd (nat_abs c) b
  right = eh ∙ ap (λ t. gcd t b) (et ∙ ap nat_abs em)

  top : v ≡ int_div a (pos (gcd (nat_abs a) d)) *ℤ int_div c (pos (gcd (nat_abs c) b))
  top = ev ∙ ep ∙ (λ i. (ek ∙ eq ∙ (λ j. int_div (en j) (pos (left j)))) i *ℤ (el ∙ er ∙ (λ j. int_div (em j) (pos (right j)))) i)

  bottom : e ≡ b / gcd (nat_abs c) b * (d / gcd (nat_abs a) d)
  bottom = ee ∙ (λ i. (eu ∙ ap (λ h. b / h) right) i * (ew ∙ ap (λ g. d / g) left) i)

  pub product_lowest : IsLowest v e
  product_lowest = rw (top, bottom) (*ℚ_lowest (made a b la) (made c d lc))

  pub product_is : frac v e ≡ frac a b *ℚ frac c d
  product_is = (λ i. frac (top i) (bottom i)) ∙ *ℚ_over (made a b la) (made c d lc) ∙ (λ i. ℚ_is (made a b la) i *ℚ ℚ_is (made c d lc) i)

module _ (a c n m : ℤ) (b d f g h u w : ℕ) (p v : ℤ) (la : IsLowest a b) (lc : IsLowest c d) (en : n ≡ a) (em : m ≡ c)
    (eg : g ≡ gcd b d) (eu : u ≡ d / g) (ew : w ≡ b / g) (ep : p ≡ n *ℤ pos u +ℤ m *ℤ pos w) (ev : v ≡ p) (ef : f ≡ b) (eh : h ≡ g) where
  by : u ≡ d / gcd b d
  by = eu ∙ ap (λ g. d / g) eg

  total : v ≡ a *ℤ pos (d / gcd b d) +ℤ c *ℤ pos (b / gcd b d)
  total = ev ∙ ep ∙ (λ i. en i *ℤ pos (by i) +ℤ em i *ℤ pos ((ew ∙ ap (λ g. b / g) eg) i))

  pub sum_divides : h ∣ f
  sum_divides = rw (eh, ef, eg) ((gcd_is b d).0)

  pub sum_shared : (i : ℕ) → i ≡ u → gcd (nat_abs v) h ≡ gcd (nat_abs v) (f * i)
  sum_shared i ei = rw (ei, total, by, eh, ef, eg) (shared_sum (made a b la) (made c d lc))

  pub sum_is : (i : ℕ) → i ≡ u → frac v (f * i) ≡ frac a b +ℚ frac c d
  sum_is i ei = (λ j. frac (total j) (ef j * (ei ∙ by) j)) ∙ +ℚ_over (made a b la) (made c d lc) ∙ (λ i. ℚ_is (made a b la) i +ℚ ℚ_is (made c d lc) i)

-- ---- they are always there
twice : (m n : ℕ) → m ≤ 2 ^ 63 → n ≤ 2 ^ 63 → m * n < 2 ^ 127
twice m n h k = omega (arith, mul-le-mul h k)

under : (m n : ℕ) → m < 2 ^ 63 → n < 2 ^ 63 → m * n < 2 ^ 127
under m n h k = omega (arith, mul-le-mul (let l : m ≤ 2 ^ 63 = omega arith in l) (let l : n ≤ 2 ^ 63 = omega arith in l))

scaled_short : (z : ℤ) (n d g : ℕ) → n ≡ d / g → nat_abs z ≤ 2 ^ 63 → d < 2 ^ 63 → nat_abs (z *ℤ pos n) < 2 ^ 126
scaled_short z n d g e h k =
    let l : n < 2 ^ 63 = omega (arith, e, div-le_self d g) in
    rw (unsigned_abs-mul z (pos n)) (omega (arith, mul-le-mul h (let m : n ≤ 9223372036854775807 = omega (arith, l) in m)))

abs_sum : (a b : ℤ) → nat_abs a < 2 ^ 126 → nat_abs b < 2 ^ 126 → nat_abs (a +ℤ b) < 2 ^ 127
abs_sum a b h k = omega (arith, ints, h, k)

add_fits_short : (x y : ℚ) → nat_abs x.num ≤ 2 ^ 63 → nat_abs y.num ≤ 2 ^ 63 → x.den < 2 ^ 63 → y.den < 2 ^ 63 → add_fits x y ≡ true
unfolding add_fits
add_fits_short x y h k p q =
    let g = gcd x.den y.den in
    let l = scaled_short x.num (y.den / g) y.den g refl h q in
    let r = scaled_short y.num (x.den / g) x.den g refl k p in
    rw (
      is_small_from (x.num *ℤ pos (y.den / gcd x.den y.den)) (let m : nat_abs (x.num *ℤ pos (y.den / gcd x.den y.den)) < 2 ^ 127 = omega (arith, l) in m),
      is_small_from (y.num *ℤ pos (x.den / gcd x.den y.den)) (let m : nat_abs (y.num *ℤ pos (x.den / gcd x.den y.den)) < 2 ^ 127 = omega (arith, r) in m),
      is_small_from (x.num *ℤ pos (y.den / gcd x.den y.den) +ℤ y.num *ℤ pos (x.den / gcd x.den y.den)) (abs_sum (x.num *ℤ pos (y.den / gcd x.den y.den)) (y.num *ℤ pos (x.den / gcd x.den y.den)) l r),
    )
    (lt-ltb _ _ (under x.den (y.den / gcd x.den y.den) p (omega (arith, q, div-le_self y.den (gcd x.den y.den)))))

module _ (x y : ℚ) (a c : ℤ) (b d : ℕ) (ea : a ≡ x.num) (eb : b ≡ x.den) (ec : c ≡ y.num) (ed : d ≡ y.den)
    (ha : nat_abs a ≤ 2 ^ 63) (hb : b < 2 ^ 63) (hc : nat_abs c ≤ 2 ^ 63) (hd : d < 2 ^ 63) where
  pub product_checked : (z : ℚ) → z ≡ frac a b *ℚ frac c d → Some z ≡ mul_checked x y
  product_checked z e =
      ap Some (e ∙ (λ i. frac (ea i) (eb i) *ℚ frac (ec i) (ed i)) ∙ (λ i. sym (ℚ_is x) i *ℚ sym (ℚ_is y) i))
      ∙ sym (mul_is x y (mul_fits_small x y (rw (← ea, ← ec) (twice _ _ ha hc)) (rw (← eb, ← ed) (under _ _ hb hd))))

  pub sum_checked : (z : ℚ) → z ≡ frac a b +ℚ frac c d → Some z ≡ add_checked x y
  sum_checked z e =
      ap Some (e ∙ (λ i. frac (ea i) (eb i) +ℚ frac (ec i) (ed i)) ∙ (λ i. sym (ℚ_is x) i +ℚ sym (ℚ_is y) i))
      ∙ sym (add_is x y (add_fits_short x y (rw (← ea) ha) (rw (← ec) hc) (rw (← eb) hb) (rw (← ed) hd)))
