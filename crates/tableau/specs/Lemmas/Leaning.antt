-- Lemmas: reduced costs, and the multipliers of a row that no column can help, each go with a bound that is there.
use Rattle.std.proofs.Common.{◌≡◌, arith, refl, ap, sym, ◌∙◌, Bool, true, false, Option, Some, None, inl, inr}
use Rattle.std.specs.Prelude.{◌⊎◌, ℤ, pos, negsuc, ◌≤ℤ◌, int_lt, if◌then◌else◌, not, ◌&&◌}
use Rattle.std.specs.Option.{unwrap_or}
use Rattle.std.specs.Ordering.{is_eq}
use Rattle.std.proofs.lemmas.Int.{ints}
use Rattle.std.proofs.lemmas.Bool.{cases_Bool}
use Rattle.fraction.specs.Checked.{compare}
use Rattle.fraction.specs.Lemmas.Bounds.{whole_parts}
use Rattle.fraction.specs.Lemmas.Order.{along, compare_equal, less, zero_from_num, less_only}
use Rattle.fraction.specs.Lemmas.Ring.{*ℚ-zero}
use Rattle.fraction.specs.Order.{◌<ℚ◌}
use Rattle.fraction.specs.Rational.{neg_ℚ, whole, ℚ, ◌*ℚ◌, ◌≤ℚ◌}
use Rattle.tableau.specs.Elimination.{zero_ℚ}
use Rattle.tableau.specs.Entering.{is_eligible}
use Rattle.tableau.specs.Invariants.{HasDualSign, IsAtBound}
use Rattle.tableau.specs.Leaving.{bounds_differ, ends_differ, is_above, is_below, violated_bound, violation}
use Rattle.tableau.specs.Lemmas.RatioTest.{not_lt}
use Rattle.tableau.specs.Lemmas.RowAlgebra.{minus_one}
use Rattle.tableau.specs.Lemmas.Signs.{nonpos_num, above_from, back_ge, back_le, below_from, neg_is, nonneg_num, one_ℚ, zero_num}
use Rattle.tableau.specs.declared.bounds.Bounds.{Bounds}
use Rattle.tableau.specs.declared.bounds.Direction.{Direction}
use Rattle.tableau.specs.declared.bounds.Direction.TheVariants.{Fall, Rise}
use Rattle.tableau.specs.declared.status.BasisStatus.{BasisStatus}
use Rattle.tableau.specs.declared.status.BasisStatus.TheVariants.{AtLower, AtUpper, Basic}

-- ---- multipliers and their bounds
-- a multiplier above 0 goes with a lower bound u, one below 0 with an upper bound u
pub record Leans (b : Bounds) (g u : ℚ) : Type 0 where
  pub above : int_lt (pos 0) g.num ≡ true → b.lower ≡ Some u
  pub below : int_lt g.num (pos 0) ≡ true → b.upper ≡ Some u

pub sign_cases : (z : ℤ) → (z ≡ pos 0) ⊎ ((int_lt (pos 0) z ≡ true) ⊎ (int_lt z (pos 0) ≡ true))
sign_cases z = grind (arith, ints)

-- ---- tests
pub zero_leans : (b : Bounds) (g u : ℚ) → g ≡ zero_ℚ → Leans b g u
zero_leans b g u e = record {
  above = λ h. absurd (not_above g.num (zero_num g e) h);
  below = λ h. absurd (not_below g.num (zero_num g e) h);
}
  where
    not_above : (z : ℤ) → z ≡ pos 0 → int_lt (pos 0) z ≡ true → ⊥
    not_above z e h = grind (arith, ints)

    not_below : (z : ℤ) → z ≡ pos 0 → int_lt z (pos 0) ≡ true → ⊥
    not_below z e h = grind (arith, ints)

-- a fixed variable has one bound
pub same_bounds : (b : Bounds) → bounds_differ b ≡ false → b.lower ≡ b.upper
same_bounds b e = at b.lower b.upper e
  where
    at : (l u : Option ℚ) → ends_differ l u ≡ false → l ≡ u
    at None u e = cc
    at (Some l) None e = cc
    at (Some l) (Some u) e = ap Some ((compare_equal l u).0 (is (is_eq (compare l u)) e))
      where
        is : (x : Bool) → not x ≡ false → x ≡ true
        is true e = refl
        is false e = cc

below_not_nonneg : (x : ℚ) → zero_ℚ ≤ℚ x → int_lt x.num (pos 0) ≡ true → ⊥
below_not_nonneg x h e = at x.num (nonneg_num x h) e
  where
    at : (z : ℤ) → pos 0 ≤ℤ z → int_lt z (pos 0) ≡ true → ⊥
    at z h e = grind (arith, ints)

above_not_nonpos : (x : ℚ) → x ≤ℚ zero_ℚ → int_lt (pos 0) x.num ≡ true → ⊥
above_not_nonpos x h e = at x.num (nonpos_num x h) e
  where
    at : (z : ℤ) → z ≤ℤ pos 0 → int_lt (pos 0) z ≡ true → ⊥
    at z h e = grind (arith, ints)

strict_above : (x : ℚ) → zero_ℚ ≤ℚ x → (x ≡ zero_ℚ → ⊥) → int_lt (pos 0) x.num ≡ true
strict_above x h n = at x.num (nonneg_num x h) (λ e. n (zero_from_num x e))
  where
    at : (z : ℤ) → pos 0 ≤ℤ z → (z ≡ pos 0 → ⊥) → int_lt (pos 0) z ≡ true
    at z h n = grind (arith, ints)

strict_below : (x : ℚ) → x ≤ℚ zero_ℚ → (x ≡ zero_ℚ → ⊥) → int_lt x.num (pos 0) ≡ true
strict_below x h n = at x.num (nonpos_num x h) (λ e. n (zero_from_num x e))
  where
    at : (z : ℤ) → z ≤ℤ pos 0 → (z ≡ pos 0 → ⊥) → int_lt z (pos 0) ≡ true
    at z h n = grind (arith, ints)

above_not_zero : (x : ℚ) → int_lt (pos 0) x.num ≡ true → x ≡ zero_ℚ → ⊥
above_not_zero x h e = at x.num (zero_num x e) h
  where
    at : (z : ℤ) → z ≡ pos 0 → int_lt (pos 0) z ≡ true → ⊥
    at z e h = grind (arith, ints)

below_not_zero : (x : ℚ) → int_lt x.num (pos 0) ≡ true → x ≡ zero_ℚ → ⊥
below_not_zero x h e = at x.num (zero_num x e) h
  where
    at : (z : ℤ) → z ≡ pos 0 → int_lt z (pos 0) ≡ true → ⊥
    at z e h = grind (arith, ints)

neg_zero : (x : ℚ) → x ≡ zero_ℚ → neg_ℚ x ≡ zero_ℚ
neg_zero x e = neg_is x ∙ ap (λ v. minus_one *ℚ v) e ∙ *ℚ-zero minus_one

-- the negative is above 0: the number is below
neg_above : (x : ℚ) → int_lt (pos 0) (neg_ℚ x).num ≡ true → int_lt x.num (pos 0) ≡ true
neg_above x e = strict_below x (back_le x (along _ _ _ _ refl (neg_is x) (above_from (neg_ℚ x) e))) (λ z. above_not_zero (neg_ℚ x) e (neg_zero x z))

neg_below : (x : ℚ) → int_lt (neg_ℚ x).num (pos 0) ≡ true → int_lt (pos 0) x.num ≡ true
neg_below x e = strict_above x (back_ge x (along _ _ _ _ (neg_is x) refl (below_from (neg_ℚ x) e))) (λ z. below_not_zero (neg_ℚ x) e (neg_zero x z))

-- ---- reduced costs
pub lean_cost : (b : Bounds) (s : BasisStatus) (d q : ℚ) → IsAtBound b s q → HasDualSign b s d → (s ≡ Basic → d ≡ zero_ℚ) → Leans b d q
lean_cost b Basic d q h k z = zero_leans b d q (z refl)
lean_cost b AtLower d q h k z = record {
  above = λ e. h;
  below = λ e. elim (cases_Bool (bounds_differ b)) [
    | inl f ↦ absurd (below_not_nonneg d (k f) e)
    | inr f ↦ sym (same_bounds b f) ∙ h
  ];
}
lean_cost b AtUpper d q h k z = record {
  above = λ e. elim (cases_Bool (bounds_differ b)) [
    | inl f ↦ absurd (above_not_nonpos d (k f) e)
    | inr f ↦ same_bounds b f ∙ h
  ];
  below = λ e. h;
}

-- ---- a row that has no column
abbrev pub multiplier : Direction → ℚ → ℚ
multiplier Rise t = neg_ℚ t
multiplier Fall t = t

not_differ : (x y : Bool) → x ≡ true → (x && y) ≡ false → y ≡ false
not_differ true true e f = cc
not_differ true false e f = refl
not_differ false y e f = cc

pub lean_multiplier : (w : Direction) (b : Bounds) (s : BasisStatus) (t q : ℚ) → IsAtBound b s q → (is_eligible w s t && bounds_differ b) ≡ false → (s ≡ Basic → t ≡ zero_ℚ) → Leans b (multiplier w t) q
lean_multiplier Rise b Basic t q h n z = zero_leans b (neg_ℚ t) q (neg_zero t (z refl))
lean_multiplier Fall b Basic t q h n z = zero_leans b t q (z refl)
lean_multiplier Rise b AtLower t q h n z = record { above = λ e. h; below = λ e. sym (same_bounds b (not_differ _ _ (neg_below t e) n)) ∙ h }
lean_multiplier Fall b AtLower t q h n z = record { above = λ e. h; below = λ e. sym (same_bounds b (not_differ _ _ e n)) ∙ h }
lean_multiplier Rise b AtUpper t q h n z = record { above = λ e. same_bounds b (not_differ _ _ (neg_above t e) n) ∙ h; below = λ e. h }
lean_multiplier Fall b AtUpper t q h n z = record { above = λ e. same_bounds b (not_differ _ _ e n) ∙ h; below = λ e. h }

-- the leaving variable's own multiplier
one_num : (whole (pos 1)).num ≡ pos 1
one_num = (whole_parts (pos 1)).0

minus_num : (whole (negsuc 0)).num ≡ negsuc 0
minus_num = (whole_parts (negsuc 0)).0

pub lean_rise : (b : Bounds) (u : ℚ) → b.lower ≡ Some u → Leans b one_ℚ u
lean_rise b u h = record { above = λ e. h; below = λ e. absurd (at one_ℚ.num one_num e) }
  where
    at : (z : ℤ) → z ≡ pos 1 → int_lt z (pos 0) ≡ true → ⊥
    at z e h = grind (arith, ints)

pub lean_fall : (b : Bounds) (u : ℚ) → b.upper ≡ Some u → Leans b minus_one u
lean_fall b u h = record { above = λ e. absurd (at minus_one.num minus_num e); below = λ e. h }
  where
    at : (z : ℤ) → z ≡ negsuc 0 → int_lt (pos 0) z ≡ true → ⊥
    at z e h = grind (arith, ints)

-- ---- bounds that are violated, or not

pub below_is : (v : ℚ) (o : Option ℚ) → is_below v o ≡ true → v <ℚ unwrap_or o zero_ℚ
below_is v None e = cc
below_is v (Some l) e = less v l (less_only _ e)

pub above_is : (v : ℚ) (o : Option ℚ) → is_above v o ≡ true → unwrap_or o zero_ℚ <ℚ v
above_is v None e = cc
above_is v (Some u) e = less u v (less_only _ e)

-- the bound that the leaving variable violates
pub record IsViolated (b : Bounds) (v : ℚ) (w : Direction) : Type 0 where
  pub rise : w ≡ Rise → v <ℚ violated_bound Rise b
  pub fall : w ≡ Fall → violated_bound Fall b <ℚ v
  pub is_direction : (if is_below v b.lower then Rise else Fall) ≡ w

pub violated : (b : Bounds) (v : ℚ) (w : Direction) → violation b v ≡ Some w → IsViolated b v w
violated b v w e = at (is_below v b.lower) refl (is_above v b.upper) refl e
  where
    at : (x : Bool) → is_below v b.lower ≡ x → (y : Bool) → is_above v b.upper ≡ y → (if x then Some Rise else if y then Some Fall else None) ≡ Some w → IsViolated b v w
    at true f y g e =
        let k : Rise ≡ w = cc in record {
          rise = λ _. below_is v b.lower f;
          fall = λ h. absurd (let z : ⊥ = cc in z);
          is_direction = ap (λ x. if x then Rise else Fall) f ∙ k;
        }
    at false f true g e =
        let k : Fall ≡ w = cc in record {
          rise = λ h. absurd (let z : ⊥ = cc in z);
          fall = λ _. above_is v b.upper g;
          is_direction = ap (λ x. if x then Rise else Fall) f ∙ k;
        }
    at false f false g e = cc

-- a value that violates none is within the bounds
pub record IsWithinBounds (b : Bounds) (v : ℚ) : Type 0 where
  pub lower : (l : ℚ) → b.lower ≡ Some l → l ≤ℚ v
  pub upper : (u : ℚ) → b.upper ≡ Some u → v ≤ℚ u

pub within_bounds : (b : Bounds) (v : ℚ) → violation b v ≡ None → IsWithinBounds b v
within_bounds b v e = at (is_below v b.lower) refl (is_above v b.upper) refl e
  where
    at : (x : Bool) → is_below v b.lower ≡ x → (y : Bool) → is_above v b.upper ≡ y → (if x then Some Rise else if y then Some Fall else None) ≡ None → IsWithinBounds b v
    at true f y g e = cc
    at false f true g e = cc
    at false f false g e = record {
      lower = λ l h. not_lt v l (sym (ap (is_below v) h) ∙ f);
      upper = λ u h. not_lt u v (sym (ap (is_above v) h) ∙ g);
    }
