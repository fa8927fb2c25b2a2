-- The steps of a multiplication, each with what it leaves.
use Rattle.std.proofs.Common.{◌≡◌, ℕ, ◌/◌, ◌*◌, ℤ, pos, to_z, of_z, ap, ◌∙◌, true, Some, None}
use Rattle.std.specs.Prelude.{nat_abs, ◌*ℤ◌, int_div}
use Rattle.std.specs.Int.{w128}
use Rattle.fraction.specs.Gcd.{gcd}
use Rattle.fraction.specs.Rational.{ℚ, frac}
use Rattle.fraction.specs.Lowest.{IsLowest}
use Rattle.fraction.specs.Lemmas.Rational.{*ℚ_over, *ℚ_lowest}
use Rattle.fraction.specs.Checked.{small_integer, small_natural, is_small, mul_fits, mul_checked}
use Rattle.fraction.proofs.Adding.{none_guard, some_guard, small_of, back_small}

module _ (x y : ℚ) (n m : ℤ) (a b g h u w : ℕ) (q r s t : ℤ) (en : n ≡ x.num) (em : m ≡ y.num) (ea : a ≡ nat_abs n) (eb : b ≡ nat_abs m)
    (eg : g ≡ gcd a y.den) (eh : h ≡ gcd b x.den) (eq : q ≡ int_div n (pos g)) (er : r ≡ int_div m (pos h)) (es : s ≡ q) (et : t ≡ r)
    (eu : u ≡ x.den / h) (ew : w ≡ y.den / g) where
  left : ℕ
  left = gcd (nat_abs x.num) y.den

  g_is : g ≡ gcd (nat_abs x.num) y.den
  g_is = eg ∙ ap (λ k. gcd k y.den) (ea ∙ ap nat_abs en)

  h_is : h ≡ gcd (nat_abs y.num) x.den
  h_is = eh ∙ ap (λ k. gcd k x.den) (eb ∙ ap nat_abs em)

  u_is : u ≡ x.den / gcd (nat_abs y.num) x.den
  u_is = eu ∙ ap (λ k. x.den / k) h_is

  w_is : w ≡ y.den / gcd (nat_abs x.num) y.den
  w_is = ew ∙ ap (λ k. y.den / k) g_is

  abbrev whole_product : ℤ
  whole_product = int_div x.num (pos (gcd (nat_abs x.num) y.den)) *ℤ int_div y.num (pos (gcd (nat_abs y.num) x.den))

  product_is : s *ℤ t ≡ whole_product
  product_is = λ i. (es ∙ eq ∙ (λ j. int_div (en j) (pos (g_is j)))) i *ℤ (et ∙ er ∙ (λ j. int_div (em j) (pos (h_is j)))) i

  pub none_num : None ≡ small_integer (s *ℤ t) → None ≡ mul_checked x y
  unfolding mul_checked mul_fits
  none_num e = let k = none_guard _ _ (rw product_is at e) in rw k

  module _ (p : ℤ) (hp : Some p ≡ small_integer (s *ℤ t)) where
    num : (is_small whole_product ≡ true) × (to_z w128 (of_z w128 p) ≡ whole_product)
    num = let e : Some p ≡ small_integer whole_product = rw product_is at hp in ((small_of p whole_product e).0, back_small p whole_product e)

    pub none_den : None ≡ small_natural (u * w) → None ≡ mul_checked x y
    unfolding mul_checked mul_fits
    none_den e = let k = none_guard _ _ (rw (u_is, w_is) at e) in rw (num.0, k)

    pub lowest : (d : ℕ) → Some d ≡ small_natural (u * w) → IsLowest (to_z w128 (of_z w128 p)) d
    lowest d e = let k = some_guard _ _ _ (rw (u_is, w_is) at e) in rw (num.1, k.1) (*ℚ_lowest x y)

    pub some_product : (d : ℕ) → Some d ≡ small_natural (u * w) → Some (frac (to_z w128 (of_z w128 p)) d) ≡ mul_checked x y
    unfolding mul_checked mul_fits
    some_product d e = let k = some_guard _ _ _ (rw (u_is, w_is) at e) in rw (num.0, k.0) (ap Some (rw (num.1, k.1) (*ℚ_over x y)))
