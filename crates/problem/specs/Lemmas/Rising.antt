-- Lemmas: terms in rising order of their columns, without zeros.
use Rattle.std.specs.Prelude.{◌≡◌, ◌<◌, ◌≤◌, ◌+◌, ℕ, suc, pos, List, [], ◌∷◌, All, length, refl}
use Rattle.std.proofs.Common.{◌∙◌, arith}
use Rattle.std.proofs.lemmas.List.Elements.{All-head, All-tail}
use Rattle.fraction.specs.Rational.{ℚ, whole, ◌+ℚ◌}
use Rattle.problem.specs.Linear.{coefficient}
use Rattle.fraction.specs.Lemmas.Ring.{+ℚ-zero}
use Rattle.problem.specs.Lemmas.Linear.{at_same, past_first}
use Rattle.problem.specs.Rising.{RiseFrom}

-- what rises from a column rises from an earlier one
pub rise_lower : (j k : ℕ) (ts : List (ℕ × ℚ)) → j ≤ k → RiseFrom k ts → RiseFrom j ts
rise_lower j k [] l h = tt
rise_lower j k (t ∷ ts) l h = (omega (arith, h.0), h.1)

-- rising columns below n are at most n in number
pub length-rising : (n k : ℕ) (ts : List (ℕ × ℚ)) → k ≤ n → RiseFrom k ts → All (λ t. t.0 < n) ts → k + length ts ≤ n
length-rising n k [] l h b = omega arith
length-rising n k (t ∷ ts) l h b =
    let there = All-head (λ (t : ℕ × ℚ). t.0 < n) t ts b in
    omega (arith, h.0, length-rising n (suc t.0) ts (omega arith) h.1 (All-tail (λ (t : ℕ × ℚ). t.0 < n) t ts b))

-- ---- coefficients
-- before the first column there is nothing
pub before_first : (k : ℕ) (ts : List (ℕ × ℚ)) (j : ℕ) → RiseFrom k ts → j < k → coefficient ts j ≡ whole (pos 0)
before_first k [] j h l = refl
before_first k (t ∷ ts) j h l =
    past_first t ts j (λ e. omega (arith, h.0, e)) ∙ before_first (suc t.0) ts j h.1 (omega (arith, h.0))

-- at the first column stands the first coefficient
pub at_first : (t : ℕ × ℚ) (ts : List (ℕ × ℚ)) (j : ℕ) → RiseFrom (suc t.0) ts → t.0 ≡ j → coefficient (t ∷ ts) j ≡ t.1
at_first t ts j h e = (λ i. at_same t.0 t.1 j e i +ℚ before_first (suc t.0) ts j h (omega (arith, e)) i) ∙ +ℚ-zero t.1
