-- The sum over all columns, by the terms alone.
use Rattle.std.specs.Prelude.{if◌then◌else◌, nat_lt}
use Rattle.std.proofs.Common.{◌≡◌, ℕ, zero, suc, ◌+◌, ◌<◌, ◌≤◌, arith, refl, ap, sym, ◌∙◌, Bool, true, false, Option, Some, None, List, [], ◌∷◌, length, get_or, drop, inl, inr}
use Rattle.std.specs.Option.{option_and_then}
use Rattle.std.proofs.lemmas.Bool.{cases_eq, ltb-true, ltb-false}
use Rattle.std.proofs.lemmas.List.{get_or_default}
use Rattle.fraction.specs.Rational.{ℚ}
use Rattle.fraction.specs.Fits.{FitsFraction}
use Rattle.fraction.specs.Checked.{add_checked, mul_checked, dot_from}
use Rattle.fraction.specs.Lemmas.Checked.{zero_has_fraction}
use Rattle.problem.specs.Linear.{Terms, coefficient}
use Rattle.problem.specs.Rising.{RiseFrom}
use Rattle.problem.specs.Lemmas.Rising.{rise_lower, before_first, at_first}
use Rattle.derivation_book.specs.Sums.{with_product}
use Rattle.derivation_book.specs.Lemmas.Held.{held_product, zero_with}
use Rattle.derivation_book.specs.Lemmas.OptionChains.{next_item}
use Rattle.tableau.specs.Elimination.{zero_ℚ}
use Rattle.tableau.specs.LinearProgram.{coefficients_from}
use Rattle.tableau.specs.Lemmas.Started.{past_term}
use Rattle.dual_simplex.specs.Relaxation.{RationalPoint, rational_at}
use Rattle.dual_simplex.specs.PointSums.{checked_sum}

-- on from the sum s, term by term, a term of no column of the point being passed over
abbrev pub sum_of_terms : ℚ → Terms → RationalPoint → Option ℚ
sum_of_terms s [] x = Some s
sum_of_terms s (t ∷ ts) x =
    if nat_lt t.0 (length x) then option_and_then (λ u. sum_of_terms u ts x) (with_product s t.1 (rational_at x t.0)) else sum_of_terms s ts x

-- the step of one term, whose column may not be there
same_step : (b : Bool) (o : Option ℚ) (f : ℚ → Option ℚ) (s u : ℚ) → (if b then o else Some s) ≡ Some u → (if b then option_and_then f o else f s) ≡ f u
same_step true o f s u h = ap (option_and_then f) h
same_step false o f s u h = ap (option_and_then f) h

pub next_term : (x : RationalPoint) (ts : Terms) (i : ℕ) (t : ℕ × ℚ) (s u : ℚ) → i < length ts → t ≡ get_or ts i t → (if nat_lt t.0 (length x) then with_product s t.1 (rational_at x t.0) else Some s) ≡ Some u
    → sum_of_terms u (drop (i + 1) ts) x ≡ sum_of_terms s (drop i ts) x
next_term x ts i t s u l e h =
    sym (ap (λ us. sum_of_terms s us x) (next_item ts i t l e)
    ∙ same_step (nat_lt t.0 (length x)) (with_product s t.1 (rational_at x t.0)) (λ v. sum_of_terms v (drop (i + 1) ts) x) s u h)

-- ---- steps
one_step : (s c x : ℚ) (cs xs : List ℚ) → dot_from s (c ∷ cs) (x ∷ xs) ≡ option_and_then (λ t. dot_from t cs xs) (with_product s c x)
one_step s c x cs xs = at (mul_checked c x)
  where
    at : (o : Option ℚ) → option_and_then (λ p. option_and_then (λ t. dot_from t cs xs) (add_checked s p)) o ≡ option_and_then (λ t. dot_from t cs xs) (option_and_then (λ v. add_checked s v) o)
    at None = refl
    at (Some p) = refl

same_after : (s c x : ℚ) (f g : ℚ → Option ℚ) → ((u : ℚ) → FitsFraction u → f u ≡ g u) → option_and_then f (with_product s c x) ≡ option_and_then g (with_product s c x)
same_after s c x f g h = at (with_product s c x) refl
  where
    at : (o : Option ℚ) → with_product s c x ≡ o → option_and_then f o ≡ option_and_then g o
    at None e = refl
    at (Some u) e = h u (held_product s c x u e)

-- terms of no column of the point
all_past : (s : ℚ) (j : ℕ) (ts : Terms) (x : RationalPoint) → length x ≤ j → RiseFrom j ts → sum_of_terms s ts x ≡ Some s
all_past s j [] x l r = refl
all_past s j (t ∷ ts) x l r = at (nat_lt t.0 (length x)) refl (all_past s (suc t.0) ts x (omega (arith, r.0)) r.1)
  where
    at : (b : Bool) → nat_lt t.0 (length x) ≡ b → sum_of_terms s ts x ≡ Some s
        → (if b then option_and_then (λ u. sum_of_terms u ts x) (with_product s t.1 (rational_at x t.0)) else sum_of_terms s ts x) ≡ Some s
    at true e others = absurd (omega (arith, ltb-true _ _ e, r.0))
    at false e others = others

pub term_there : (s : ℚ) (t : ℕ × ℚ) (ts : Terms) (x : RationalPoint) → t.0 < length x → sum_of_terms s (t ∷ ts) x ≡ option_and_then (λ u. sum_of_terms u ts x) (with_product s t.1 (rational_at x t.0))
term_there s t ts x l = at (nat_lt t.0 (length x)) refl
  where
    at : (b : Bool) → nat_lt t.0 (length x) ≡ b
        → (if b then option_and_then (λ u. sum_of_terms u ts x) (with_product s t.1 (rational_at x t.0)) else sum_of_terms s ts x) ≡ option_and_then (λ u. sum_of_terms u ts x) (with_product s t.1 (rational_at x t.0))
    at true e = refl
    at false e = absurd (omega (arith, ltb-false _ _ e))

-- the sum over the k columns from j on
abbrev sum_of_columns : RationalPoint → ℕ → ℕ → Terms → ℚ → Option ℚ
sum_of_columns x j k ts s = dot_from s (coefficients_from j k ts) (drop j x)

module _ (x : RationalPoint) where
  abbrev ByColumns : ℕ → ℕ → Type 0
  ByColumns j k = (s : ℚ) (ts : Terms) → RiseFrom j ts → FitsFraction s → sum_of_columns x j k ts s ≡ sum_of_terms s ts x

  by_columns : (k j : ℕ) (s : ℚ) (ts : Terms) → j + k ≡ length x → RiseFrom j ts → FitsFraction s → dot_from s (coefficients_from j k ts) (drop j x) ≡ sum_of_terms s ts x
  by_columns zero j s ts l r h = sym (all_past s j ts x (omega arith) r)
  by_columns (suc k) j s ts l r h =
      ap (dot_from s (coefficients_from j (suc k) ts)) (next_item x j (rational_at x j) there (get_or_default x j zero_ℚ (rational_at x j) there))
      ∙ one_step s (coefficient ts j) (rational_at x j) (coefficients_from (j + 1) k ts) (drop (j + 1) x)
      ∙ at (λ u us q f. by_columns k (j + 1) u us (omega arith) q f) ts r
    where
      there : j < length x
      there = omega arith

      passed : ByColumns (j + 1) k → (us : Terms) → coefficient us j ≡ zero_ℚ → RiseFrom (j + 1) us
          → option_and_then (sum_of_columns x (j + 1) k us) (with_product s (coefficient us j) (rational_at x j)) ≡ sum_of_terms s us x
      passed others us e q =
          ap (option_and_then (sum_of_columns x (j + 1) k us)) (ap (λ c. with_product s c (rational_at x j)) e ∙ zero_with s (rational_at x j) h) ∙ others s us q h

      at : ByColumns (j + 1) k → (us : Terms) → RiseFrom j us → option_and_then (sum_of_columns x (j + 1) k us) (with_product s (coefficient us j) (rational_at x j)) ≡ sum_of_terms s us x
      at others [] q = passed others [] refl tt
      at others (t ∷ us) q = elim (cases_eq t.0 j) [
        | inl e ↦
            let later : RiseFrom (j + 1) us = rise_lower (j + 1) (suc t.0) us (omega (arith, e)) q.1 in
            (λ i. option_and_then (λ u. dot_from u (past_term t us (j + 1) k (omega (arith, e)) i) (drop (j + 1) x)) (with_product s (at_first t us j q.1 e i) (rational_at x j)))
            ∙ same_after s t.1 (rational_at x j) (sum_of_columns x (j + 1) k us) (λ u. sum_of_terms u us x) (λ u f. others u us later f)
            ∙ ap (λ n. option_and_then (λ u. sum_of_terms u us x) (with_product s t.1 (rational_at x n))) (sym e)
            ∙ sym (term_there s t us x (omega (arith, e, there)))
        | inr n ↦
            let later : j + 1 ≤ t.0 = omega (arith, n, q.0) in
            passed others (t ∷ us) (before_first (j + 1) (t ∷ us) j (later, q.1) (omega arith)) (later, q.1)
      ]

  -- the sum over all columns is that of the terms alone
  pub checked_sum-terms : (ts : Terms) → RiseFrom 0 ts → checked_sum ts x ≡ sum_of_terms zero_ℚ ts x
  checked_sum-terms ts r = by_columns (length x) 0 zero_ℚ ts (omega arith) r zero_has_fraction
