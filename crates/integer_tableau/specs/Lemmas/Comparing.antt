-- Signs, comparisons and ratios of fractions on their whole numbers.
use Rattle.std.proofs.Common.{◌≡◌, ℕ, ◌*◌, ◌^◌, ◌<◌, arith, refl, ap, ◌∙◌, Bool, true, false, Some}
use Rattle.std.specs.Prelude.{ℤ, pos, negsuc, neg_ℤ, ◌*ℤ◌, nat_abs, int_lt, cond, if◌then◌else◌}
use Rattle.std.specs.declared.cmp.Ordering.TheVariants.{Less, Equal, Greater}
use Rattle.std.specs.Ordering.{is_lt, int_cmp}
use Rattle.std.proofs.lemmas.Int.{ints}
use Rattle.std.proofs.Math.Nat.{mul-pos}
use Rattle.fraction.specs.Checked.{abs_ℚ, compare, div_checked, mul_checked}
use Rattle.fraction.specs.Lemmas.Rational.{frac-≤ℚ, frac_same, lit_one, neg_ℚ-frac, ≤ℚ_frac}
use Rattle.fraction.specs.Rational.{frac, inv_ℚ, neg_ℚ, whole, ◌≤ℚ◌}
use Rattle.fraction.specs.Lemmas.Integers.{same_less}
use Rattle.fraction.specs.Lemmas.Order.{below_zero}
use Rattle.integer_tableau.specs.Lemmas.Fractions.{IsNarrow, below, inv-frac, mul_frac}
use Rattle.tableau.specs.Leaving.{is_above, is_below}

-- ---- comparisons
less_test : (u v : ℤ) → is_lt (int_cmp u v) ≡ int_lt u v
less_test u v = step (int_lt u v) (int_lt v u)
  where
    step : (s t : Bool) → is_lt (cond s Less (cond t Greater Equal)) ≡ s
    step true t = refl
    step false true = refl
    step false false = refl

pub less_frac : (a b : ℤ) (c d : ℕ) → 0 < c → 0 < d → is_lt (compare (frac a c) (frac b d)) ≡ int_lt (a *ℤ pos d) (b *ℤ pos c)
unfolding compare ◌≤ℚ◌
less_frac a b c d p q =
    less_test ((frac a c).num *ℤ pos (frac b d).den) ((frac b d).num *ℤ pos (frac a c).den) ∙ same_less (a *ℤ pos d) (b *ℤ pos c) ((frac a c).num *ℤ pos (frac b d).den) ((frac b d).num *ℤ pos (frac a c).den)
    (λ h. frac-≤ℚ b a d c q p h) (λ h. ≤ℚ_frac b a d c q p h)

pub times_one : (a : ℤ) → a *ℤ pos 1 ≡ a
times_one a = omega (arith, ints)

-- outside a bound that is whole
pub below_whole : (v l : ℤ) (d : ℕ) → 0 < d → is_below (frac v d) (Some (whole l)) ≡ int_lt v (l *ℤ pos d)
below_whole v l d o = less_frac v l d 1 o lit_one ∙ ap (λ z. int_lt z (l *ℤ pos d)) (times_one v)

pub above_whole : (v u : ℤ) (d : ℕ) → 0 < d → is_above (frac v d) (Some (whole u)) ≡ int_lt (u *ℤ pos d) v
above_whole v u d o = less_frac u v 1 d lit_one o ∙ ap (int_lt (u *ℤ pos d)) (times_one v)

-- ---- ratios
pub abs-frac : (a : ℤ) (d : ℕ) → 0 < d → abs_ℚ (frac a d) ≡ frac (pos (nat_abs a)) d
abs-frac a d o = ap (λ b. if b then neg_ℚ (frac a d) else frac a d) (below_zero a d o) ∙ ap (λ x. if int_lt a (pos 0) then x else frac a d) (neg_ℚ-frac a d o) ∙ step a
  where
    step : (a : ℤ) → (if int_lt a (pos 0) then frac (neg_ℤ a) d else frac a d) ≡ frac (pos (nat_abs a)) d
    step (pos a) = elim (int_lt (pos a) (pos 0)) as (λ b. int_lt (pos a) (pos 0) ≡ b → (if b then frac (neg_ℤ (pos a)) d else frac (pos a) d) ≡ frac (pos a) d) [
      | true ↦ λ e. absurd (grind (arith, ints, e))
      | false ↦ λ e. refl
    ] refl
    step (negsuc a) = refl

pub ratio_exact : (a t : ℤ) (d : ℕ) → 0 < d → d < 2 ^ 63 → IsNarrow a → IsNarrow t → 0 < nat_abs t
    → div_checked (abs_ℚ (frac a d)) (abs_ℚ (frac t d)) ≡ Some (frac (pos (nat_abs a)) (nat_abs t))
ratio_exact a t d o hd ha ht p =
    (λ i. mul_checked (abs-frac a d o i) (inv_ℚ (abs-frac t d o i)))
    ∙ ap (mul_checked (frac (pos (nat_abs a)) d)) (inv-frac (pos (nat_abs t)) d o p)
    ∙ mul_frac (pos (nat_abs a)) (pos d) d (nat_abs t) o p (omega (arith, below (nat_abs a) d ha hd)) (omega (arith, below d (nat_abs t) hd ht))
    ∙ ap Some (frac_same _ _ _ _ (mul-pos o p) p (over (nat_abs a) d (nat_abs t)))
  where
    over : (a d t : ℕ) → (pos a *ℤ pos d) *ℤ pos t ≡ pos a *ℤ pos (d * t)
    over a d t = ap pos (omega arith)

-- which of two ratios is less
pub less_quotient : (a b t u : ℕ) → 0 < t → 0 < u → is_lt (compare (frac (pos a) t) (frac (pos b) u)) ≡ int_lt (pos (a * u)) (pos (b * t))
less_quotient a b t u p q = less_frac (pos a) (pos b) t u p q
