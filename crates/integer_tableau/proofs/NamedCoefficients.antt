-- Coefficients by the numbers of rows: those that are 0 are left out.
use Rattle.std.specs.Prelude.{if◌then◌else◌}
use Rattle.std.proofs.Common.{◌≡◌, ◌<◌, ◌≤◌, ◌*◌, ◌∷◌, ℕ, zero, suc, length, ℤ, [], pos, nat_abs, arith, refl, ap, ◌∙◌, Bool, true, false, List, drop}
use Rattle.std.proofs.lemmas.Int.{ints}
use Rattle.std.proofs.lemmas.List.{drop_all}
use Rattle.std.proofs.Math.Nat.{mul-pos}
use Rattle.std.specs.Ordering.{int_eq}
use Rattle.fraction.specs.Lemmas.Checked.{num_zero, zero_test}
use Rattle.fraction.specs.Rational.{ℚ, frac, whole}
use Rattle.problem.specs.Linear.{Multipliers}
use Rattle.tableau.specs.Multipliers.{numbered, with_multiplier}
use Rattle.integer_tableau.specs.Lemmas.Fractions.{frac-size, zero_over}
use Rattle.integer_tableau.specs.Positions.{coefficient, coefficients, numerator}
use Rattle.integer_tableau.specs.declared.position.Position.{Position}
use Rattle.integer_tableau.proofs.Sums.{coefficient_is}

with_some : (i : ℕ) (q : ℚ) (others : Multipliers) → 0 < nat_abs q.num → with_multiplier i q others ≡ (i, q) ∷ others
with_some i q others o = at (int_eq q.num (pos 0)) refl
  where
    at : (t : Bool) → int_eq q.num (pos 0) ≡ t → (if t then others else (i, q) ∷ others) ≡ (i, q) ∷ others
    at true e = absurd (omega (arith, ints, num_zero q.num e))
    at false e = refl

num_some : (z : ℤ) (d : ℕ) → 0 < d → 0 < nat_abs z → 0 < nat_abs (frac z d).num
num_some z d o s = from (nat_abs (frac z d).num) (frac-size z d o) (mul-pos s (frac z d).lowest.0)
  where
    from : (a : ℕ) → a * d ≡ nat_abs z * (frac z d).den → 0 < nat_abs z * (frac z d).den → 0 < a
    from zero e h = absurd (omega (arith, e, h))
    from (suc a) e h = omega arith

-- a numerator that isn't 0 is told
pub with_nonzero : (i d : ℕ) (row : List ℤ) (s : Position) (others : Multipliers) → 0 < d → 0 < nat_abs (numerator row s) → with_multiplier i (coefficient d row s) others ≡ (i, frac (numerator row s) d) ∷ others
with_nonzero i d row s others o h = ap (λ q. with_multiplier i q others) (coefficient_is d row s o) ∙ with_some i (frac (numerator row s) d) others (num_some (numerator row s) d o h)

-- and one that is 0 isn't
pub with_zero : (i d : ℕ) (row : List ℤ) (s : Position) (others : Multipliers) → 0 < d → numerator row s ≡ pos 0 → with_multiplier i (coefficient d row s) others ≡ others
with_zero i d row s others o e =
    ap (λ q. with_multiplier i q others) (coefficient_is d row s o ∙ ap (λ z. frac z d) e ∙ zero_over d o) ∙ ap (λ t. if t then others else (i, whole (pos 0)) ∷ others) zero_test

numbered-none : (is : List ℕ) → numbered is [] ≡ []
numbered-none [] = refl
numbered-none (i ∷ is) = refl

-- past the variables there is none
pub numbered_past : (is : List ℕ) (d k : ℕ) (positions : List Position) (row : List ℤ) → length positions ≤ k → numbered is (coefficients d (drop k positions) row) ≡ []
numbered_past is d k positions row h = ap (λ ss. numbered is (coefficients d ss row)) (drop_all k positions h) ∙ numbered-none is
