-- The values of a tableau that is read with scales.
use Rattle.std.proofs.Common.{◌≡◌, ℕ, zero, suc, ◌+◌, ◌*◌, ◌^◌, ◌<◌, ◌≤◌, arith, ap, sym, ◌∙◌, subst, Some, List, [], ◌∷◌, get_or, map}
use Rattle.std.specs.Prelude.{ℤ, pos, nat_abs, ◌*ℤ◌}
use Rattle.std.specs.Option.{option_and_then, option_map}
use Rattle.std.proofs.lemmas.Int.{unsigned_abs-mul}
use Rattle.std.proofs.Math.Nat.{mul-le-mul, mul-one, mul-pos}
use Rattle.fraction.specs.Bounds.{Within}
use Rattle.fraction.specs.Checked.{add_checked, dot_from, mul_checked}
use Rattle.fraction.specs.Lemmas.Bounds.{Within-+ℚ, add_fits_within, add_is, value_from_add, value_from_mul, was_some, was_mapped, Within-more}
use Rattle.fraction.specs.Lemmas.Rational.{frac-*ℚ, lit_one, abs-times}
use Rattle.fraction.specs.Rational.{ℚ, frac, whole, ◌*ℚ◌, ◌+ℚ◌}
use Rattle.tableau.specs.Elimination.{entry, zero_ℚ}
use Rattle.tableau.specs.Pivot.{computed_value, computed_values}
use Rattle.tableau.specs.declared.status.BasisStatus.{BasisStatus}
use Rattle.tableau.specs.declared.status.BasisStatus.TheVariants.{Basic, AtLower, AtUpper}
use Rattle.integer_tableau.specs.Range.{size_limit}
use Rattle.integer_tableau.specs.Scales.{Scales, scaled_by, unscaled_row, unscaled_rows, unscaled_value, unscaled_values}
use Rattle.integer_tableau.specs.Numbers.{total_size}
use Rattle.integer_tableau.specs.Small.{IsOver}
use Rattle.integer_tableau.specs.Lemmas.Comparing.{times_one}
use Rattle.integer_tableau.specs.Lemmas.Fractions.{Within-frac, mul_frac, zero_over}
use Rattle.scaled_program.proofs.Numbers.{scaled_frac, scaled_product, scaled_sum, scaled_zero}

one : 0 < 1
one = omega arith

within_over : (z : ℤ) (d : ℕ) → 0 < d → Within d (nat_abs z) (frac z d)
within_over z d o = subst (λ m. Within m (nat_abs z) (frac z d)) (mul-one d) (subst (λ m. Within (d * 1) m (frac z d)) (mul-one (nat_abs z)) (Within-frac z d 1 o))

module _ (σ : Scales) (d k : ℕ) (od : 0 < d) (ok : 0 < k) (lk : d * k < size_limit) where
  -- a coefficient times a whole number: the unit of the variable falls out
  product_is : (a z : ℤ) → scaled_by 1 k (frac a d *ℚ whole z) ≡ frac (a *ℤ z) (d * k)
  product_is a z =
      ap (scaled_by 1 k) (frac-*ℚ a z d 1 od lit_one)
      ∙ scaled_frac 1 k (a *ℤ z) (d * 1) ok (omega arith)
      ∙ (λ i. frac (times_one (a *ℤ z) i) (let e : d * 1 * k ≡ d * k = omega arith in e i))

  product_there : (x : ℚ) (z : ℤ) (m : ℕ) → 0 < m → d * m < size_limit → nat_abs z < size_limit → IsOver d m x → mul_checked (scaled_by m k x) (scaled_by 1 m (whole z)) ≡ Some (scaled_by 1 k (x *ℚ whole z))
  product_there x z m om lm lz h =
      let a = h.numerator in
      let e : mul_checked (scaled_by m k x) (scaled_by 1 m (whole z)) ≡ Some (frac ((a *ℤ pos m) *ℤ (z *ℤ pos 1)) (d * k * (1 * m))) =
      (λ i. mul_checked (left h i) (scaled_frac 1 m z 1 om lit_one i))
      ∙ mul_frac (a *ℤ pos m) (z *ℤ pos 1) (d * k) (1 * m) (mul-pos od ok) (omega arith)
      (omega (arith, sizes (nat_abs a * m) (nat_abs z) h.small lz, ap (λ n. n * nat_abs (z *ℤ pos 1)) (abs-times a m), ap (λ n. nat_abs a * m * n) (ap nat_abs (times_one z))))
      (omega (arith, denominators (d * k) m lk (least d m od lm))) in
      e ∙ ap Some (sym (value_from_mul (scaled_by m k x) (scaled_by 1 m (whole z)) _ e) ∙ scaled_product 1 k m x (whole z) ok om)
    where
      left : (h : IsOver d m x) → scaled_by m k x ≡ frac (h.numerator *ℤ pos m) (d * k)
      left h = ap (scaled_by m k) h.exact ∙ scaled_frac m k h.numerator d ok od

      sizes : (m n : ℕ) → m ≤ size_limit → n < size_limit → m * n ≤ 2 ^ 124
      sizes m n h l = let g : n ≤ size_limit = omega arith in omega (arith, mul-le-mul h g)

      least : (d m : ℕ) → 0 < d → d * m < size_limit → m < size_limit
      least zero m o l = absurd (omega arith)
      least (suc d) m o l = omega (arith, l)

      denominators : (p m : ℕ) → p < size_limit → m < size_limit → p * m ≤ 2 ^ 124
      denominators p m h l = let f : p ≤ size_limit = omega arith in let g : m ≤ size_limit = omega arith in omega (arith, mul-le-mul f g)

  product_within : (x : ℚ) (z : ℤ) (m : ℕ) → 0 < m → IsOver d m x → Within (d * k) (size_limit * nat_abs z) (scaled_by 1 k (x *ℚ whole z))
  product_within x z m om h =
      Within-more (d * k) (nat_abs (h.numerator *ℤ z)) (size_limit * nat_abs z) _
      (omega (arith, unsigned_abs-mul h.numerator z, mul-le-mul (least (nat_abs h.numerator) m om h.small) (let g : nat_abs z ≤ nat_abs z = omega arith in g)))
      (subst (Within (d * k) (nat_abs (h.numerator *ℤ z))) (sym (ap (λ y. scaled_by 1 k (y *ℚ whole z)) h.exact ∙ product_is h.numerator z)) (within_over (h.numerator *ℤ z) (d * k) (mul-pos od ok)))
    where
      least : (a m : ℕ) → 0 < m → a * m ≤ size_limit → a ≤ size_limit
      least a zero o l = absurd (omega arith)
      least a (suc m) o l = omega (arith, l)

  module _ (o : (j : ℕ) → (0 < σ j) × (d * σ j < size_limit)) where
    sum_unscaled : (j : ℕ) (s : ℚ) (a : ℕ) (row : List ℚ) (zs : List ℤ) (v : ℚ) → ((i : ℕ) → IsOver d (σ (j + i)) (entry row i)) → Within (d * k) a (scaled_by 1 k s) → a + size_limit * total_size zs < 2 ^ 127 → total_size zs < size_limit
        → dot_from s row (map whole zs) ≡ Some v → dot_from (scaled_by 1 k s) (unscaled_row σ k j row) (unscaled_values σ j (map whole zs)) ≡ Some (scaled_by 1 k v)
    sum_unscaled j s a [] zs v h w m l e = ap (option_map (scaled_by 1 k)) e
    sum_unscaled j s a (x ∷ row) [] v h w m l e = ap (option_map (scaled_by 1 k)) e
    sum_unscaled j s a (x ∷ row) (z ∷ zs) v h w m l e =
        let f = was_some (λ p. option_and_then (λ t. dot_from t row (map whole zs)) (add_checked s p)) (mul_checked x (whole z)) v e in
        let g = was_some (λ t. dot_from t row (map whole zs)) (add_checked s f.0) v f.2 in
        let first : IsOver d (σ j) x = subst (λ i. IsOver d (σ i) x) (let q : j + 0 ≡ j = omega arith in q) (h 0) in
        let small : nat_abs z < size_limit = omega (arith, l) in
        let p = product_there x z (σ j) (o j).0 (o j).1 small first in
        let b = product_within x z (σ j) (o j).0 first in
        let sum : scaled_by 1 k s +ℚ scaled_by 1 k (x *ℚ whole z) ≡ scaled_by 1 k g.0 =
        sym (scaled_sum 1 k s (x *ℚ whole z)) ∙ ap (scaled_by 1 k) (ap (λ y. s +ℚ y) (value_from_mul x (whole z) f.0 f.1) ∙ value_from_add s f.0 g.0 g.1) in
        let q : add_checked (scaled_by 1 k s) (scaled_by 1 k (x *ℚ whole z)) ≡ Some (scaled_by 1 k g.0) =
        add_is _ _ (add_fits_within (scaled_by 1 k s) (scaled_by 1 k (x *ℚ whole z)) (d * k) a (size_limit * nat_abs z) (mul-pos od ok) (omega (arith, lk)) (omega (arith, m)) w b) ∙ ap Some sum in
        ap (option_and_then (λ p. option_and_then (λ t. dot_from t (unscaled_row σ k (j + 1) row) (unscaled_values σ (j + 1) (map whole zs))) (add_checked (scaled_by 1 k s) p))) p
        ∙ ap (option_and_then (λ t. dot_from t (unscaled_row σ k (j + 1) row) (unscaled_values σ (j + 1) (map whole zs)))) q
        ∙ sum_unscaled (j + 1) g.0 (a + size_limit * nat_abs z) row zs v (λ i. subst (λ l. IsOver d (σ l) (entry row i)) (let q : j + suc i ≡ j + 1 + i = omega arith in q) (h (suc i)))
        (subst (Within (d * k) (a + size_limit * nat_abs z)) sum (Within-+ℚ _ _ (d * k) a (size_limit * nat_abs z) (mul-pos od ok) w b)) (omega (arith, m)) (omega (arith, l)) g.2

zero_within : (n : ℕ) → 0 < n → Within n 0 zero_ℚ
zero_within n o = subst (Within n 0) (zero_over n o) (within_over (pos 0) n o)

-- ---- all values
module _ (σ : Scales) (d : ℕ) (od : 0 < d) (o : (j : ℕ) → (0 < σ j) × (d * σ j < size_limit)) (zs : List ℤ) (total : total_size zs < size_limit) where
  value_unscaled : (i : ℕ) (s : BasisStatus) (y : ℚ) (row : List ℚ) (v : ℚ) → ((j : ℕ) → IsOver d (σ j) (entry row j)) → computed_value (map whole zs) s y row ≡ Some v
      → computed_value (unscaled_values σ 0 (map whole zs)) s (unscaled_value σ i y) (unscaled_row σ (σ i) 0 row) ≡ Some (unscaled_value σ i v)
  value_unscaled i Basic y row v h e =
      ap (λ z. dot_from z (unscaled_row σ (σ i) 0 row) (unscaled_values σ 0 (map whole zs))) (sym (scaled_zero 1 (σ i)))
      ∙ sum_unscaled σ d (σ i) od (o i).0 (o i).1 o 0 zero_ℚ 0 row zs v (λ j. subst (λ l. IsOver d (σ l) (entry row j)) (let q : j ≡ 0 + j = omega arith in q) (h j))
      (subst (Within (d * σ i) 0) (sym (scaled_zero 1 (σ i))) (zero_within (d * σ i) (mul-pos od (o i).0))) (omega (arith, total)) total e
  value_unscaled i AtLower y row v h e = ap (option_map (unscaled_value σ i)) e
  value_unscaled i AtUpper y row v h e = ap (option_map (unscaled_value σ i)) e

  pub values_unscaled : (i : ℕ) (ss : List BasisStatus) (ys : List ℚ) (rows : List (List ℚ)) (vs : List ℚ) → ((i j : ℕ) → IsOver d (σ j) (entry (get_or rows i []) j))
      → computed_values (map whole zs) ss ys rows ≡ Some vs → computed_values (unscaled_values σ 0 (map whole zs)) ss (unscaled_values σ i ys) (unscaled_rows σ i rows) ≡ Some (unscaled_values σ i vs)
  values_unscaled i [] ys rows vs h e = ap (option_map (unscaled_values σ i)) e
  values_unscaled i (s ∷ ss) [] rows vs h e = ap (option_map (unscaled_values σ i)) e
  values_unscaled i (s ∷ ss) (y ∷ ys) [] vs h e = ap (option_map (unscaled_values σ i)) e
  values_unscaled i (s ∷ ss) (y ∷ ys) (row ∷ rows) vs h e =
      let f = was_some (λ v. option_map (λ vs. v ∷ vs) (computed_values (map whole zs) ss ys rows)) (computed_value (map whole zs) s y row) vs e in
      let g = was_mapped (λ vs. f.0 ∷ vs) (computed_values (map whole zs) ss ys rows) vs f.2 in
      ap (option_and_then (λ v. option_map (λ vs. v ∷ vs) (computed_values (unscaled_values σ 0 (map whole zs)) ss (unscaled_values σ (i + 1) ys) (unscaled_rows σ (i + 1) rows)))) (value_unscaled i s y row f.0 (h 0) f.1)
      ∙ ap (option_map (λ vs. unscaled_value σ i f.0 ∷ vs)) (values_unscaled (i + 1) ss ys rows g.0 (λ i j. h (suc i) j) g.1)
      ∙ ap (λ vs. Some (unscaled_values σ i vs)) g.2

pub products_there : (d k s : ℕ) (x : ℚ) (z : ℤ) → 0 < d → 0 < k → 0 < s → d * k < size_limit → d * s < size_limit → IsOver d k x → nat_abs z < size_limit
    → (mul_checked (scaled_by k s x) (scaled_by 1 k (whole z)) ≡ Some (scaled_by 1 s (x *ℚ whole z))) × Within (d * s) (size_limit * nat_abs z) (scaled_by 1 s (x *ℚ whole z))
products_there d k s x z od ok os lk ls h l = (product_there (λ i. k) d s od os ls x z k ok lk l h, product_within (λ i. k) d s od os ls x z k ok h)
