-- The steps of an addition, each with what it leaves.
use Rattle.std.proofs.Common.{◌≡◌, ℕ, ◌<◌, ◌^◌, ◌/◌, ◌*◌, ℤ, pos, to_z, of_z, ap, ◌∙◌, arith, Bool, true, false, Some, None, refl}
use Rattle.std.specs.Prelude.{nat_abs, nat_lt, ◌+ℤ◌, ◌*ℤ◌, if◌then◌else◌}
use Rattle.std.specs.Int.{w128}
use Prim.Native.Nat.{◌∣◌}
use Rattle.fraction.specs.Gcd.{gcd}
use Rattle.fraction.specs.Lemmas.Gcd.{gcd_is}
use Rattle.fraction.proofs.Common.{shared_sum}
use Rattle.fraction.specs.Rational.{ℚ, frac}
use Rattle.fraction.specs.Lemmas.Rational.{+ℚ_over, quotient_positive}
use Rattle.std.proofs.Math.Nat.{mul-pos}
use Rattle.fraction.specs.Checked.{small_integer, small_natural, is_small, add_fits, add_checked}
use Rattle.fraction.specs.Lemmas.Integers.{back128}

pub none_guard : {A : Type 0} (b : Bool) (v : A) → None ≡ (if b then Some v else None) → b ≡ false
none_guard true v e = cc
none_guard false v e = refl

pub some_guard : {A : Type 0} (b : Bool) (v w : A) → Some w ≡ (if b then Some v else None) → (b ≡ true) × (w ≡ v)
some_guard true v w e = (refl, cc)
some_guard false v w e = cc

pub small_of : (w z : ℤ) → Some w ≡ small_integer z → (is_small z ≡ true) × (w ≡ z)
small_of w z e = some_guard (is_small z) z w e

-- what was found small is so after a cast to bits and back
pub back_small : (w z : ℤ) → Some w ≡ small_integer z → to_z w128 (of_z w128 w) ≡ z
back_small w z e =
    let s = small_of w z e in
    ap (λ v. to_z w128 (of_z w128 v)) s.1 ∙ back128 z (grind (arith, s.0))

-- so its bits are of a small number
pub small_bits : (w z : ℤ) → Some w ≡ small_integer z → nat_abs (to_z w128 (of_z w128 w)) < 2 ^ 127
small_bits w z e = let s = small_of w z e in rw (back_small w z e) (grind (arith, s.0))

-- a natural number that was found small
pub small_natural_of : (m n : ℕ) → Some m ≡ small_natural n → (n < 2 ^ 127) × (m ≡ n)
small_natural_of m n e = let s = some_guard (nat_lt n (2 ^ 127)) n m e in (grind (arith, s.0), s.1)

module _ (x y : ℚ) (n m : ℤ) (g u w : ℕ) (en : n ≡ x.num) (em : m ≡ y.num) (eg : g ≡ gcd x.den y.den) (eu : u ≡ y.den / g) (ew : w ≡ x.den / g) where
  by : u ≡ y.den / gcd x.den y.den
  by = eu ∙ ap (λ g. y.den / g) eg

  other_by : w ≡ x.den / gcd x.den y.den
  other_by = ew ∙ ap (λ g. x.den / g) eg

  first : n *ℤ pos u ≡ x.num *ℤ pos (y.den / gcd x.den y.den)
  first = λ i. en i *ℤ pos (by i)

  second : m *ℤ pos w ≡ y.num *ℤ pos (x.den / gcd x.den y.den)
  second = λ i. em i *ℤ pos (other_by i)

  pub none_left : None ≡ small_integer (n *ℤ pos u) → None ≡ add_checked x y
  unfolding add_checked add_fits
  none_left e = let h = none_guard _ _ (rw first at e) in rw h

  pub none_right : (l : ℤ) → Some l ≡ small_integer (n *ℤ pos u) → None ≡ small_integer (m *ℤ pos w) → None ≡ add_checked x y
  unfolding add_checked add_fits
  none_right l d e = let k = (some_guard _ _ _ (rw first at d)).0 in let h = none_guard _ _ (rw second at e) in rw (k, h)

  pub positive : 0 < x.den * u
  positive = rw by (mul-pos x.lowest.0 (quotient_positive x.den y.den y.lowest.0))

  pub divides : g ∣ x.den
  divides = rw eg ((gcd_is x.den y.den).0)

  module _ (l r : ℤ) (hl : Some l ≡ small_integer (n *ℤ pos u)) (hr : Some r ≡ small_integer (m *ℤ pos w)) where
    left_is : (is_small (x.num *ℤ pos (y.den / gcd x.den y.den)) ≡ true) × (to_z w128 (of_z w128 l) ≡ x.num *ℤ pos (y.den / gcd x.den y.den))
    left_is =
        let e : Some l ≡ small_integer (x.num *ℤ pos (y.den / gcd x.den y.den)) = rw first at hl in
        let z = x.num *ℤ pos (y.den / gcd x.den y.den) in ((small_of l z e).0, back_small l z e)

    right_is : (is_small (y.num *ℤ pos (x.den / gcd x.den y.den)) ≡ true) × (to_z w128 (of_z w128 r) ≡ y.num *ℤ pos (x.den / gcd x.den y.den))
    right_is =
        let e : Some r ≡ small_integer (y.num *ℤ pos (x.den / gcd x.den y.den)) = rw second at hr in
        let z = y.num *ℤ pos (x.den / gcd x.den y.den) in ((small_of r z e).0, back_small r z e)

    sum_is : to_z w128 (of_z w128 l) +ℤ to_z w128 (of_z w128 r) ≡ x.num *ℤ pos (y.den / gcd x.den y.den) +ℤ y.num *ℤ pos (x.den / gcd x.den y.den)
    sum_is = λ i. left_is.1 i +ℤ right_is.1 i

    pub none_num : None ≡ small_integer (to_z w128 (of_z w128 l) +ℤ to_z w128 (of_z w128 r)) → None ≡ add_checked x y
    unfolding add_checked add_fits
    none_num e = let h = none_guard _ _ (rw sum_is at e) in rw (left_is.0, right_is.0, h)

    module _ (s : ℤ) (hs : Some s ≡ small_integer (to_z w128 (of_z w128 l) +ℤ to_z w128 (of_z w128 r))) where
      total : (is_small (x.num *ℤ pos (y.den / gcd x.den y.den) +ℤ y.num *ℤ pos (x.den / gcd x.den y.den)) ≡ true)
          × (to_z w128 (of_z w128 s) ≡ x.num *ℤ pos (y.den / gcd x.den y.den) +ℤ y.num *ℤ pos (x.den / gcd x.den y.den))
      total =
          let z = x.num *ℤ pos (y.den / gcd x.den y.den) +ℤ y.num *ℤ pos (x.den / gcd x.den y.den) in
          let e : Some s ≡ small_integer z = rw sum_is at hs in ((small_of s z e).0, back_small s z e)

      pub none_den : None ≡ small_natural (x.den * u) → None ≡ add_checked x y
      unfolding add_checked add_fits
      none_den e = let h = none_guard _ _ (rw by at e) in rw (left_is.0, right_is.0, total.0, h)

      pub shared : gcd (nat_abs (to_z w128 (of_z w128 s))) g ≡ gcd (nat_abs (to_z w128 (of_z w128 s))) (x.den * u)
      shared = rw (total.1, by, eg) (shared_sum x y)

      pub some_sum : (d : ℕ) → Some d ≡ small_natural (x.den * u) → Some (frac (to_z w128 (of_z w128 s)) (x.den * u)) ≡ add_checked x y
      unfolding add_checked add_fits
      some_sum d e =
          let h = some_guard _ _ _ (rw by at e) in
          rw (left_is.0, right_is.0, total.0, h.0) (ap Some (rw (total.1, by) (+ℚ_over x y)))
