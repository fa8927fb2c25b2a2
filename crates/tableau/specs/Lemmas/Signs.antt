-- Lemmas: signs of fractions, as factors 1 and -1.
use Rattle.std.proofs.Common.{◌≡◌, ℕ, zero, suc, ◌<◌, arith, refl, ap, sym, ◌∙◌, Bool, true, false, inl, inr}
use Rattle.std.specs.Prelude.{◌⊎◌, ℤ, pos, negsuc, nat_abs, int_lt, ◌*ℤ◌, ◌≤ℤ◌, if◌then◌else◌}
use Rattle.std.proofs.lemmas.Int.{ints}
use Rattle.fraction.specs.Checked.{abs_ℚ}
use Rattle.fraction.specs.Lemmas.Bounds.{whole_parts}
use Rattle.fraction.specs.Lemmas.Order.{*ℚ-≥ℚ, along, at_most_zero, at_least_zero, zero_from_num}
use Rattle.fraction.specs.Lemmas.Rational.{*ℚ_assoc, *ℚ_comm, +ℚ_comm, neg-+ℚ, one-*ℚ, zero-*ℚ, ≤ℚ_antisymm}
use Rattle.fraction.specs.Lemmas.Ring.{*ℚ-zero, +ℚ-mul}
use Rattle.fraction.specs.Rational.{neg_ℚ, whole, ℚ, ◌*ℚ◌, ◌+ℚ◌, ◌≤ℚ◌}
use Rattle.tableau.specs.Elimination.{zero_ℚ}
use Rattle.tableau.specs.Entering.{is_eligible}
use Rattle.tableau.specs.Invariants.{HasDualSign, IsNonbasic}
use Rattle.tableau.specs.Leaving.{bounds_differ}
use Rattle.tableau.specs.Lemmas.RowAlgebra.{cancelled, less_one, minus_one}
use Rattle.tableau.specs.declared.bounds.Bounds.{Bounds}
use Rattle.tableau.specs.declared.bounds.Direction.{Direction}
use Rattle.tableau.specs.declared.bounds.Direction.TheVariants.{Fall, Rise}
use Rattle.tableau.specs.declared.status.BasisStatus.{BasisStatus}
use Rattle.tableau.specs.declared.status.BasisStatus.TheVariants.{AtLower, AtUpper, Basic}

abbrev pub one_ℚ : ℚ
one_ℚ = whole (pos 1)

-- ---- numerators
plain_le : (a : ℤ) (d : ℕ) → ((pos 0 *ℤ pos d) ≤ℤ (a *ℤ pos 1)) → pos 0 ≤ℤ a
plain_le a d h = omega (arith, ints)

plain_le_back : (a : ℤ) (d : ℕ) → pos 0 ≤ℤ a → ((pos 0 *ℤ pos d) ≤ℤ (a *ℤ pos 1))
plain_le_back a d h = omega (arith, ints)

plain_ge : (a : ℤ) (d : ℕ) → ((a *ℤ pos 1) ≤ℤ (pos 0 *ℤ pos d)) → a ≤ℤ pos 0
plain_ge a d h = omega (arith, ints)

plain_ge_back : (a : ℤ) (d : ℕ) → a ≤ℤ pos 0 → ((a *ℤ pos 1) ≤ℤ (pos 0 *ℤ pos d))
plain_ge_back a d h = omega (arith, ints)

pub nonneg_num : (x : ℚ) → zero_ℚ ≤ℚ x → pos 0 ≤ℤ x.num
unfolding ◌≤ℚ◌
nonneg_num x h = let e = whole_parts (pos 0) in plain_le x.num x.den (rw (e.0, e.1) at h)

pub nonpos_num : (x : ℚ) → x ≤ℚ zero_ℚ → x.num ≤ℤ pos 0
unfolding ◌≤ℚ◌
nonpos_num x h = let e = whole_parts (pos 0) in plain_ge x.num x.den (rw (e.0, e.1) at h)

pub zero_num : (x : ℚ) → x ≡ zero_ℚ → x.num ≡ pos 0
zero_num x e = ap (λ (x : ℚ). x.num) e ∙ (whole_parts (pos 0)).0

pub nonzero_num : (x : ℚ) → (x ≡ zero_ℚ → ⊥) → 0 < nat_abs x.num
nonzero_num x h = at x.num refl
  where
    at : (z : ℤ) → x.num ≡ z → 0 < nat_abs z
    at (pos zero) e = absurd (h (zero_from_num x e))
    at (pos (suc n)) e = omega arith
    at (negsuc n) e = omega arith

pub num_nonzero : (x : ℚ) → 0 < nat_abs x.num → x ≡ zero_ℚ → ⊥
num_nonzero x h e = let f : nat_abs x.num ≡ 0 = ap nat_abs (zero_num x e) in omega arith

-- ---- minus one
pub minus_gone : (x : ℚ) → minus_one *ℚ x +ℚ x ≡ zero_ℚ
minus_gone x = ap (λ z. minus_one *ℚ x +ℚ z) (sym (one-*ℚ x)) ∙ sym (+ℚ-mul minus_one one_ℚ x) ∙ ap (λ z. z *ℚ x) less_one ∙ zero-*ℚ x

pub minus_twice : minus_one *ℚ minus_one ≡ one_ℚ
minus_twice = cancelled (minus_one *ℚ minus_one) one_ℚ minus_one (minus_gone minus_one) (ap (λ z. z +ℚ one_ℚ) (sym (*ℚ_comm minus_one one_ℚ ∙ one-*ℚ minus_one)) ∙ minus_gone one_ℚ)

pub neg_is : (x : ℚ) → neg_ℚ x ≡ minus_one *ℚ x
neg_is x = cancelled (neg_ℚ x) (minus_one *ℚ x) x (neg-+ℚ x) (+ℚ_comm x _ ∙ minus_gone x)

-- ---- signs
-- 1 or -1
pub record IsSign (m : ℚ) : Type 0 where
  pub is : (m ≡ one_ℚ) ⊎ (m ≡ minus_one)

pub sign_twice : (m : ℚ) → IsSign m → m *ℚ m ≡ one_ℚ
sign_twice m h = elim h.is [
  | inl e ↦ (λ i. e i *ℚ e i) ∙ one-*ℚ one_ℚ
  | inr e ↦ (λ i. e i *ℚ e i) ∙ minus_twice
]

pub sign_back : (m x : ℚ) → IsSign m → m *ℚ (m *ℚ x) ≡ x
sign_back m x h = sym (*ℚ_assoc m m x) ∙ ap (λ z. z *ℚ x) (sign_twice m h) ∙ one-*ℚ x

unfoldable pub side : BasisStatus → ℚ
side Basic = one_ℚ
side AtLower = one_ℚ
side AtUpper = minus_one

unfoldable pub course : Direction → ℚ
course Rise = one_ℚ
course Fall = minus_one

pub side_sign : (s : BasisStatus) → IsSign (side s)
unfolding side
side_sign Basic = record { is = inl refl }
side_sign AtLower = record { is = inl refl }
side_sign AtUpper = record { is = inr refl }

pub course_sign : (w : Direction) → IsSign (course w)
unfolding course
course_sign Rise = record { is = inl refl }
course_sign Fall = record { is = inr refl }

pub minus_below : minus_one ≤ℚ zero_ℚ
minus_below = let e = whole_parts (negsuc 0) in at_most_zero minus_one (rw e.0 (omega (arith, ints)))

-- an order turned round
pub turned_le : (x : ℚ) → x ≤ℚ zero_ℚ → zero_ℚ ≤ℚ (minus_one *ℚ x)
turned_le x h = along _ _ _ _ (*ℚ-zero minus_one) refl (*ℚ-≥ℚ minus_one x zero_ℚ minus_below h)

pub turned_ge : (x : ℚ) → zero_ℚ ≤ℚ x → (minus_one *ℚ x) ≤ℚ zero_ℚ
turned_ge x h = along _ _ _ _ refl (*ℚ-zero minus_one) (*ℚ-≥ℚ minus_one zero_ℚ x minus_below h)

pub back_le : (x : ℚ) → zero_ℚ ≤ℚ (minus_one *ℚ x) → x ≤ℚ zero_ℚ
back_le x h = along _ _ _ _ (sign_back minus_one x (record { is = inr refl })) refl (turned_ge (minus_one *ℚ x) h)

pub back_ge : (x : ℚ) → (minus_one *ℚ x) ≤ℚ zero_ℚ → zero_ℚ ≤ℚ x
back_ge x h = along _ _ _ _ refl (sign_back minus_one x (record { is = inr refl })) (turned_le (minus_one *ℚ x) h)

pub plain_nonneg : (x : ℚ) → zero_ℚ ≤ℚ x → zero_ℚ ≤ℚ (one_ℚ *ℚ x)
plain_nonneg x h = along _ _ _ _ refl (sym (one-*ℚ x)) h

pub nonneg_plain : (x : ℚ) → zero_ℚ ≤ℚ (one_ℚ *ℚ x) → zero_ℚ ≤ℚ x
nonneg_plain x h = along _ _ _ _ refl (one-*ℚ x) h

-- ---- the size of a number whose sign is known
not_below : (x : ℚ) → zero_ℚ ≤ℚ x → int_lt x.num (pos 0) ≡ false
not_below x h = at x.num (nonneg_num x h)
  where
    at : (z : ℤ) → pos 0 ≤ℤ z → int_lt z (pos 0) ≡ false
    at z h = grind (arith, ints)

pub not_below_from : (x : ℚ) → int_lt x.num (pos 0) ≡ false → zero_ℚ ≤ℚ x
not_below_from x e = at_least_zero x (at x.num e)
  where
    at : (z : ℤ) → int_lt z (pos 0) ≡ false → pos 0 ≤ℤ z
    at z e = grind (arith, ints)

pub below_from : (x : ℚ) → int_lt x.num (pos 0) ≡ true → x ≤ℚ zero_ℚ
below_from x e = at_most_zero x (at x.num e)
  where
    at : (z : ℤ) → int_lt z (pos 0) ≡ true → z ≤ℤ pos 0
    at z e = grind (arith, ints)

pub above_from : (x : ℚ) → int_lt (pos 0) x.num ≡ true → zero_ℚ ≤ℚ x
above_from x e = at_least_zero x (at x.num e)
  where
    at : (z : ℤ) → int_lt (pos 0) z ≡ true → pos 0 ≤ℤ z
    at z e = grind (arith, ints)

pub not_above_from : (x : ℚ) → int_lt (pos 0) x.num ≡ false → x ≤ℚ zero_ℚ
not_above_from x e = at_most_zero x (at x.num e)
  where
    at : (z : ℤ) → int_lt (pos 0) z ≡ false → z ≤ℤ pos 0
    at z e = grind (arith, ints)

abs_nonneg : (x : ℚ) → zero_ℚ ≤ℚ x → abs_ℚ x ≡ x
abs_nonneg x h = ap (λ b. if b then neg_ℚ x else x) (not_below x h)

abs_nonpos : (x : ℚ) → x ≤ℚ zero_ℚ → abs_ℚ x ≡ minus_one *ℚ x
abs_nonpos x h = at (int_lt x.num (pos 0)) refl
  where
    at : (b : Bool) → int_lt x.num (pos 0) ≡ b → (if b then neg_ℚ x else x) ≡ minus_one *ℚ x
    at true e = neg_is x
    at false e = let z : x ≡ zero_ℚ = ≤ℚ_antisymm x zero_ℚ h (not_below_from x e) in z ∙ sym (ap (λ v. minus_one *ℚ v) z ∙ *ℚ-zero minus_one)

pub abs_is : (m x : ℚ) → IsSign m → zero_ℚ ≤ℚ (m *ℚ x) → abs_ℚ x ≡ m *ℚ x
abs_is m x s h = elim s.is [
  | inl e ↦ abs_nonneg x (along _ _ _ _ refl (ap (λ z. z *ℚ x) e ∙ one-*ℚ x) h) ∙ sym (ap (λ z. z *ℚ x) e ∙ one-*ℚ x)
  | inr e ↦ abs_nonpos x (back_le x (along _ _ _ _ refl (ap (λ z. z *ℚ x) e) h)) ∙ ap (λ z. z *ℚ x) (sym e)
]

-- ---- what the tests tell
pub right_sign : (b : Bounds) (s : BasisStatus) (d : ℚ) → IsNonbasic s → bounds_differ b ≡ true → HasDualSign b s d → zero_ℚ ≤ℚ (side s *ℚ d)
unfolding side
right_sign b Basic d i e h = absurd i
right_sign b AtLower d i e h = plain_nonneg d (h e)
right_sign b AtUpper d i e h = turned_le d (h e)

pub right_sign_from : (b : Bounds) (s : BasisStatus) (d : ℚ) → (bounds_differ b ≡ true → zero_ℚ ≤ℚ (side s *ℚ d)) → HasDualSign b s d
unfolding side
right_sign_from b Basic d h = tt
right_sign_from b AtLower d h = λ e. nonneg_plain d (h e)
right_sign_from b AtUpper d h = λ e. back_le d (h e)

pub eligible_above : (w : Direction) (s : BasisStatus) (t : ℚ) → is_eligible w s t ≡ true → zero_ℚ ≤ℚ (course w *ℚ (side s *ℚ t))
unfolding side course
eligible_above w Basic t e = cc
eligible_above Rise AtLower t e = plain_nonneg _ (plain_nonneg t (above_from t e))
eligible_above Rise AtUpper t e = plain_nonneg _ (turned_le t (below_from t e))
eligible_above Fall AtLower t e = turned_le _ (along _ _ _ _ (sym (one-*ℚ t)) refl (below_from t e))
eligible_above Fall AtUpper t e = turned_le _ (turned_ge t (above_from t e))

pub not_eligible : (w : Direction) (s : BasisStatus) (t : ℚ) → IsNonbasic s → is_eligible w s t ≡ false → (course w *ℚ (side s *ℚ t)) ≤ℚ zero_ℚ
unfolding side course
not_eligible w Basic t i e = absurd i
not_eligible Rise AtLower t i e = along _ _ _ _ (sym (one-*ℚ _ ∙ one-*ℚ t)) refl (not_above_from t e)
not_eligible Rise AtUpper t i e = along _ _ _ _ (sym (one-*ℚ _)) refl (turned_ge t (not_below_from t e))
not_eligible Fall AtLower t i e = turned_ge _ (plain_nonneg t (not_below_from t e))
not_eligible Fall AtUpper t i e = turned_ge _ (turned_le t (not_above_from t e))
