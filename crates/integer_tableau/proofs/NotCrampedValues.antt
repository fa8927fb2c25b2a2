-- No value by a small dictionary is cramped.
use Rattle.std.proofs.Common.{◌≡◌, ℕ, ◌+◌, ◌*◌, ◌<◌, ◌≤◌, ◌^◌, arith, refl, ap, sym, ◌∙◌, subst, suc, Some, List, [], ◌∷◌, get_or, map}
use Rattle.std.specs.Prelude.{ℤ, pos, nat_abs}
use Rattle.std.specs.Option.{option_and_then, option_map}
use Rattle.std.proofs.Math.Nat.{mul-le-mul, mul-one}
use Rattle.fraction.specs.Bounds.{Within}
use Rattle.fraction.specs.Checked.{add_checked, dot_from, mul_checked}
use Rattle.fraction.specs.Lemmas.Bounds.{Within-*ℚ, Within-+ℚ, add_fits_within, add_is, mul_fits_within, mul_is}
use Rattle.fraction.specs.Rational.{ℚ, frac, whole, ◌*ℚ◌, ◌+ℚ◌}
use Rattle.tableau.specs.Elimination.{zero_ℚ}
use Rattle.tableau.specs.Pivot.{computed_value, computed_values}
use Rattle.tableau.specs.declared.status.BasisStatus.{BasisStatus}
use Rattle.tableau.specs.declared.status.BasisStatus.TheVariants.{Basic, AtLower, AtUpper}
use Rattle.integer_tableau.specs.Lemmas.Fractions.{Within-frac, zero_over}
use Rattle.integer_tableau.specs.Numbers.{total_size}
use Rattle.integer_tableau.specs.Range.{size_limit}
use Rattle.integer_tableau.specs.Small.{IsOver}
use Rattle.integer_tableau.specs.SmallDictionary.{AreOver, IsSmallPoint}

module _ (e : ℕ) (o : 0 < e) (l : e < size_limit) where
  within_over : (x : ℚ) → IsOver e 1 x → Within e (size_limit) x
  within_over x h = subst (Within e (size_limit)) (sym h.exact) (greater (frac h.numerator e)
      (subst (λ m. Within m (nat_abs h.numerator) (frac h.numerator e)) (mul-one e) (subst (λ m. Within (e * 1) m (frac h.numerator e)) (mul-one (nat_abs h.numerator)) (Within-frac h.numerator e 1 o))))
    where
      greater : (y : ℚ) → Within e (nat_abs h.numerator) y → Within e (size_limit) y
      greater y k = record { divides = k.divides; size = more (nat_abs y.num * e) (nat_abs h.numerator) y.den (omega (arith, h.small)) k.size }
        where
          more : (m a d : ℕ) → a ≤ size_limit → m ≤ a * d → m ≤ size_limit * d
          more m a d h k = omega (arith, mul-le-mul h (let z : d ≤ d = omega arith in z))

  sum_there : (s : ℚ) (a : ℕ) (xs : List ℚ) (zs : List ℤ) → Within e a s → a + size_limit * total_size zs < 2 ^ 127 → AreOver e xs → (v : ℚ) × (dot_from s xs (map whole zs) ≡ Some v)
  sum_there s a [] zs g m h = (s, refl)
  sum_there s a (x ∷ xs) [] g m h = (s, refl)
  sum_there s a (x ∷ xs) (z ∷ zs) g m h =
      let w = within_over x (h 0) in
      let own : size_limit * nat_abs z < 2 ^ 127 = omega (arith, m) in
      let same : nat_abs z ≤ nat_abs z = omega arith in
      let p = Within-*ℚ x z e (size_limit) (nat_abs z) o w same in
      let q : mul_checked x (whole z) ≡ Some (x *ℚ whole z) = mul_is x (whole z) (mul_fits_within x z e (size_limit) (nat_abs z) o (omega (arith, l)) own w same) in
      let r : add_checked s (x *ℚ whole z) ≡ Some (s +ℚ x *ℚ whole z) = add_is s (x *ℚ whole z) (add_fits_within s (x *ℚ whole z) e a (size_limit * nat_abs z) o (omega (arith, l)) (omega (arith, m)) g p) in
      let rest = sum_there (s +ℚ x *ℚ whole z) (a + size_limit * nat_abs z) xs zs (Within-+ℚ s (x *ℚ whole z) e a (size_limit * nat_abs z) o g p) (omega (arith, m)) (λ j. h (suc j)) in (
        rest.0,
        ap (option_and_then (λ p. option_and_then (λ t. dot_from t xs (map whole zs)) (add_checked s p))) q
            ∙ ap (option_and_then (λ t. dot_from t xs (map whole zs))) r ∙ rest.1,
      )

  zero_within : Within e 0 zero_ℚ
  zero_within = subst (Within e 0) (zero_over e o) (subst (λ m. Within m 0 (frac (pos 0) e)) (mul-one e) (Within-frac (pos 0) e 1 o))

  value_there : (zs : List ℤ) (s : BasisStatus) (y : ℚ) (row : List ℚ) → total_size zs < size_limit → AreOver e row → (v : ℚ) × (computed_value (map whole zs) s y row ≡ Some v)
  value_there zs Basic y row m h = sum_there zero_ℚ 0 row zs zero_within (omega (arith, m)) h
  value_there zs AtLower y row m h = (y, refl)
  value_there zs AtUpper y row m h = (y, refl)

  each_there : (zs : List ℤ) (ss : List BasisStatus) (ys : List ℚ) (rows : List (List ℚ)) → total_size zs < size_limit → ((i : ℕ) → AreOver e (get_or rows i []))
      → (vs : List ℚ) × (computed_values (map whole zs) ss ys rows ≡ Some vs)
  each_there zs [] ys rows m h = ([], refl)
  each_there zs (s ∷ ss) [] rows m h = ([], refl)
  each_there zs (s ∷ ss) (y ∷ ys) [] m h = ([], refl)
  each_there zs (s ∷ ss) (y ∷ ys) (row ∷ rows) m h =
      let x = value_there zs s y row m (h 0) in
      let xs = each_there zs ss ys rows m (λ i. h (suc i)) in (
        x.0 ∷ xs.0,
        ap (option_and_then (λ v. option_map (λ vs. v ∷ vs) (computed_values (map whole zs) ss ys rows))) x.1
            ∙ ap (option_map (λ vs. x.0 ∷ vs)) xs.1,
      )

pub values_there : (e : ℕ) (xs : List ℚ) (ss : List BasisStatus) (rows : List (List ℚ)) → 0 < e → e < size_limit → IsSmallPoint xs → ((i : ℕ) → AreOver e (get_or rows i []))
    → (vs : List ℚ) × (computed_values xs ss xs rows ≡ Some vs)
values_there e xs ss rows o l p h =
    let x = each_there e o l p.numbers ss xs rows p.total h in
    (x.0, ap (λ ys. computed_values ys ss xs rows) p.whole ∙ x.1)
