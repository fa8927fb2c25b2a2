-- Lemmas: the sums over the terms are the least and the greatest value over the points of the box.
use Rattle.std.specs.Prelude.{◌≡◌, ◌<◌, ◌≤◌, ℕ, zero, suc, ℤ, pos, ◌≤ℤ◌, int_lt, Bool, true, false, cond, List, [], ◌∷◌, All, length, refl}
use Rattle.std.proofs.Common.{ap, ◌∙◌, arith}
use Rattle.std.proofs.lemmas.Int.{ints}
use Rattle.std.proofs.lemmas.List.Elements.{All-nil, All-cons, All-head, All-tail, All-weaker}
use Rattle.fraction.specs.Rational.{ℚ, whole, ◌+ℚ◌, ◌*ℚ◌, ◌≤ℚ◌}
use Rattle.fraction.specs.Lemmas.Rational.{≤ℚ_refl, *ℚ-≤ℚ}
use Rattle.fraction.specs.Lemmas.Order.{at_least_zero, at_most_zero, whole-≤ℚ, *ℚ-≥ℚ, +ℚ-≤ℚ-both}
use Rattle.problem_box.specs.declared.span.Span.{Span}
use Rattle.problem_box.specs.Boxes.{IsWithin, IsInBox}
use Rattle.problem.specs.Linear.{number_at, value, coefficient}
use Rattle.problem.specs.Lemmas.Linear.{past_first}
use Rattle.problem.specs.Rising.{RiseFrom, AreRising}
use Rattle.problem.specs.Lemmas.Rising.{at_first}
use Rattle.row_activity.specs.Activity.{span_at, low_end, high_end, sum_of_ends, low_of, high_of, IsNonempty}
use Rattle.row_activity.specs.Extremes.{IsLeast, IsGreatest}

-- ---- no point passes the sums
pub within_at : (ss : List Span) (xs : List ℤ) (j : ℕ) → IsInBox ss xs → IsWithin (span_at ss j) (number_at xs j)
within_at [] [] j h = (omega (arith, ints), omega (arith, ints))
within_at [] (x ∷ xs) j h = absurd h
within_at (s ∷ ss) [] j h = absurd h
within_at (s ∷ ss) (x ∷ xs) zero h = h.0
within_at (s ∷ ss) (x ∷ xs) (suc j) h = within_at ss xs j h.1

low_product : (c : ℚ) (s : Span) (x : ℤ) → IsWithin s x → (c *ℚ whole (low_end c s)) ≤ℚ (c *ℚ whole x)
low_product c s x h = step (int_lt (pos 0) c.num) refl
  where
    step : (b : Bool) → int_lt (pos 0) c.num ≡ b → (c *ℚ whole (cond b s.lo s.hi)) ≤ℚ (c *ℚ whole x)
    step true e = *ℚ-≤ℚ c (whole s.lo) (whole x) (at_least_zero c (grind (arith, ints))) (whole-≤ℚ s.lo x h.0)
    step false e = *ℚ-≥ℚ c (whole x) (whole s.hi) (at_most_zero c (grind (arith, ints))) (whole-≤ℚ x s.hi h.1)

high_product : (c : ℚ) (s : Span) (x : ℤ) → IsWithin s x → (c *ℚ whole x) ≤ℚ (c *ℚ whole (high_end c s))
high_product c s x h = step (int_lt (pos 0) c.num) refl
  where
    step : (b : Bool) → int_lt (pos 0) c.num ≡ b → (c *ℚ whole x) ≤ℚ (c *ℚ whole (cond b s.hi s.lo))
    step true e = *ℚ-≤ℚ c (whole x) (whole s.hi) (at_least_zero c (grind (arith, ints))) (whole-≤ℚ x s.hi h.1)
    step false e = *ℚ-≥ℚ c (whole s.lo) (whole x) (at_most_zero c (grind (arith, ints))) (whole-≤ℚ s.lo x h.0)

-- no point of the box has a smaller value
pub low_of-≤ℚ : (ss : List Span) (ts : List (ℕ × ℚ)) (xs : List ℤ) → IsInBox ss xs → low_of ss ts ≤ℚ value ts xs
low_of-≤ℚ ss [] xs h = ≤ℚ_refl _
low_of-≤ℚ ss (t ∷ ts) xs h = +ℚ-≤ℚ-both _ _ _ _ (low_product t.1 (span_at ss t.0) (number_at xs t.0) (within_at ss xs t.0 h)) (low_of-≤ℚ ss ts xs h)

-- no point of the box has a greater value
pub ≤ℚ-high_of : (ss : List Span) (ts : List (ℕ × ℚ)) (xs : List ℤ) → IsInBox ss xs → value ts xs ≤ℚ high_of ss ts
≤ℚ-high_of ss [] xs h = ≤ℚ_refl _
≤ℚ-high_of ss (t ∷ ts) xs h = +ℚ-≤ℚ-both _ _ _ _ (high_product t.1 (span_at ss t.0) (number_at xs t.0) (within_at ss xs t.0 h)) (≤ℚ-high_of ss ts xs h)

-- ---- some point attains them
-- the point with an end of each span, chosen by a number for each column
abbrev corner : (ℚ → Span → ℤ) → (ℕ → ℚ) → List Span → List ℤ
corner e f [] = []
corner e f (s ∷ ss) = e (f zero) s ∷ corner e (λ j. f (suc j)) ss

corner_at : (e : ℚ → Span → ℤ) (f : ℕ → ℚ) (ss : List Span) (j : ℕ) → j < length ss → number_at (corner e f ss) j ≡ e (f j) (span_at ss j)
corner_at e f [] j h = absurd (omega arith)
corner_at e f (s ∷ ss) zero h = refl
corner_at e f (s ∷ ss) (suc j) h = corner_at e (λ j. f (suc j)) ss j (omega arith)

corner_inside : (e : ℚ → Span → ℤ) → ((c : ℚ) (s : Span) → s.lo ≤ℤ s.hi → IsWithin s (e c s)) → (f : ℕ → ℚ) (ss : List Span) → IsNonempty ss → IsInBox ss (corner e f ss)
corner_inside e k f [] h = tt
corner_inside e k f (s ∷ ss) h =
    (k (f zero) s (All-head (λ (s : Span). s.lo ≤ℤ s.hi) s ss h), corner_inside e k (λ j. f (suc j)) ss (All-tail (λ (s : Span). s.lo ≤ℤ s.hi) s ss h))

value-corner : (e : ℚ → Span → ℤ) (f : ℕ → ℚ) (ss : List Span) (ts : List (ℕ × ℚ)) → All (λ t. t.0 < length ss) ts → All (λ t. f t.0 ≡ t.1) ts
    → value ts (corner e f ss) ≡ sum_of_ends e ss ts
value-corner e f ss [] h k = refl
value-corner e f ss (t ∷ ts) h k =
    let there = All-head (λ (t : ℕ × ℚ). t.0 < length ss) t ts h in
    let same = All-head (λ (t : ℕ × ℚ). f t.0 ≡ t.1) t ts k in
    let number : number_at (corner e f ss) t.0 ≡ e t.1 (span_at ss t.0) = corner_at e f ss t.0 there ∙ ap (λ c. e c (span_at ss t.0)) same in
    let rest = value-corner e f ss ts (All-tail (λ (t : ℕ × ℚ). t.0 < length ss) t ts h) (All-tail (λ (t : ℕ × ℚ). f t.0 ≡ t.1) t ts k) in
    λ i. t.1 *ℚ whole (number i) +ℚ rest i

-- ---- the coefficients of rising terms
columns_from : (k : ℕ) (ts : List (ℕ × ℚ)) → RiseFrom k ts → All (λ t. k ≤ t.0) ts
columns_from k [] h = All-nil (λ (t : ℕ × ℚ). k ≤ t.0)
columns_from k (t ∷ ts) h =
    All-cons (λ (t : ℕ × ℚ). k ≤ t.0) t ts h.0
    (All-weaker (λ (u : ℕ × ℚ). suc t.0 ≤ u.0) (λ (u : ℕ × ℚ). k ≤ u.0) (λ u l. omega (arith, h.0)) ts (columns_from (suc t.0) ts h.1))

-- at each column of rising terms stands its own coefficient
pub own_coefficients : (k : ℕ) (ts : List (ℕ × ℚ)) → RiseFrom k ts → All (λ t. coefficient ts t.0 ≡ t.1) ts
own_coefficients k [] h = All-nil (λ (t : ℕ × ℚ). coefficient [] t.0 ≡ t.1)
own_coefficients k (t ∷ ts) h =
    let behind = columns_from (suc t.0) ts h.1 in
    let rest = own_coefficients (suc t.0) ts h.1 in
    All-cons (λ (u : ℕ × ℚ). coefficient (t ∷ ts) u.0 ≡ u.1) t ts (at_first t ts t.0 h.1 refl)
    (λ i d l. past_first t ts _ (λ e. omega (arith, e, behind i d l)) ∙ rest i d l)

-- ---- the extremes
low_end_within : (c : ℚ) (s : Span) → s.lo ≤ℤ s.hi → IsWithin s (low_end c s)
low_end_within c s h = step (int_lt (pos 0) c.num)
  where
    step : (b : Bool) → IsWithin s (cond b s.lo s.hi)
    step true = (omega (arith, ints), h)
    step false = (h, omega (arith, ints))

high_end_within : (c : ℚ) (s : Span) → s.lo ≤ℤ s.hi → IsWithin s (high_end c s)
high_end_within c s h = step (int_lt (pos 0) c.num)
  where
    step : (b : Bool) → IsWithin s (cond b s.hi s.lo)
    step true = (h, omega (arith, ints))
    step false = (omega (arith, ints), h)

-- over a box that isn't empty, the low sum of rising terms is the least value
pub IsLeast-low_of : (ss : List Span) (ts : List (ℕ × ℚ)) → IsNonempty ss → All (λ t. t.0 < length ss) ts → AreRising ts → IsLeast ss ts (low_of ss ts)
IsLeast-low_of ss ts n b r = record {
  point = corner low_end (coefficient ts) ss;
  inside = corner_inside low_end low_end_within (coefficient ts) ss n;
  attained = value-corner low_end (coefficient ts) ss ts b (own_coefficients 0 ts r);
  least = low_of-≤ℚ ss ts;
}

-- and the high sum the greatest
pub IsGreatest-high_of : (ss : List Span) (ts : List (ℕ × ℚ)) → IsNonempty ss → All (λ t. t.0 < length ss) ts → AreRising ts → IsGreatest ss ts (high_of ss ts)
IsGreatest-high_of ss ts n b r = record {
  point = corner high_end (coefficient ts) ss;
  inside = corner_inside high_end high_end_within (coefficient ts) ss n;
  attained = value-corner high_end (coefficient ts) ss ts b (own_coefficients 0 ts r);
  greatest = ≤ℚ-high_of ss ts;
}
