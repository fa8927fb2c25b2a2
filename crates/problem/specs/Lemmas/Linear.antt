-- Lemmas: terms of a column and its coefficient, and their value at a point.
use Rattle.std.specs.Prelude.{◌≡◌, ◌<◌, ◌≤◌, ℕ, zero, suc, ℤ, pos, cond, eqb, Bool, true, false, List, [], ◌∷◌, ◌++◌, All, refl}
use Rattle.std.proofs.Common.{sym, ap, ◌∙◌, subst, arith}
use Rattle.std.proofs.lemmas.Bool.{eqb-true, eqb-false}
use Rattle.std.proofs.lemmas.List.Elements.{All-head, All-tail}
use Rattle.std.proofs.Math.Dec.{eqb-suc-suc, eqb-suc-zero, eqb-zero-suc}
use Rattle.fraction.specs.Rational.{ℚ, whole, ◌+ℚ◌, ◌*ℚ◌}
use Rattle.fraction.specs.Lemmas.Rational.{+ℚ_assoc, *ℚ_assoc, mul-+ℚ, zero-+ℚ, zero-*ℚ}
use Rattle.fraction.specs.Lemmas.Ring.{ring_ℚ, +ℚ-zero, *ℚ-zero}
use Rattle.fraction.specs.Whole.{IsWhole}
use Rattle.fraction.specs.Lemmas.Whole.{IsAnInteger, integer_from_whole, integer-+, integer-*}
use Rattle.problem.specs.Linear.{number_at, value, at_column, coefficient, scaled, SameCoefficients}

-- ---- value and coefficients of a sum
pub value-scaled : (m : ℚ) (ts : List (ℕ × ℚ)) (p : List ℤ) → value (scaled m ts) p ≡ m *ℚ value ts p
value-scaled m [] p = sym (*ℚ-zero m)
value-scaled m (t ∷ ts) p = (λ i. *ℚ_assoc m t.1 (whole (number_at p t.0)) i +ℚ value-scaled m ts p i) ∙ sym (mul-+ℚ m _ _)

pub value-append : (ts us : List (ℕ × ℚ)) (p : List ℤ) → value (ts ++ us) p ≡ value ts p +ℚ value us p
value-append [] us p = sym (zero-+ℚ _)
value-append (t ∷ ts) us p = ap (λ v. t.1 *ℚ whole (number_at p t.0) +ℚ v) (value-append ts us p) ∙ sym (+ℚ_assoc _ _ _)

pub coefficient-append : (ts us : List (ℕ × ℚ)) (j : ℕ) → coefficient (ts ++ us) j ≡ coefficient ts j +ℚ coefficient us j
coefficient-append [] us j = sym (zero-+ℚ _)
coefficient-append (t ∷ ts) us j = ap (λ v. at_column t.0 t.1 j +ℚ v) (coefficient-append ts us j) ∙ sym (+ℚ_assoc _ _ _)

at_scaled : (m : ℚ) (k : ℕ) (a : ℚ) (j : ℕ) → at_column k (m *ℚ a) j ≡ m *ℚ at_column k a j
at_scaled m k a j = step (eqb k j)
  where
    step : (b : Bool) → cond b (m *ℚ a) (whole (pos 0)) ≡ m *ℚ cond b a (whole (pos 0))
    step true = refl
    step false = sym (*ℚ-zero m)

pub coefficient-scaled : (m : ℚ) (ts : List (ℕ × ℚ)) (j : ℕ) → coefficient (scaled m ts) j ≡ m *ℚ coefficient ts j
coefficient-scaled m [] j = sym (*ℚ-zero m)
coefficient-scaled m (t ∷ ts) j = (λ i. at_scaled m t.0 t.1 j i +ℚ coefficient-scaled m ts j i) ∙ sym (mul-+ℚ m _ _)

-- ---- the coefficient of one term more
pub at_other : (k : ℕ) (a : ℚ) (j : ℕ) → (k ≡ j → ⊥) → at_column k a j ≡ whole (pos 0)
at_other k a j h = step (eqb k j) refl
  where
    step : (b : Bool) → eqb k j ≡ b → cond b a (whole (pos 0)) ≡ whole (pos 0)
    step true e = absurd (h (eqb-true k j e))
    step false e = refl

pub at_same : (k : ℕ) (a : ℚ) (j : ℕ) → k ≡ j → at_column k a j ≡ a
at_same k a j h = step (eqb k j) refl
  where
    step : (b : Bool) → eqb k j ≡ b → cond b a (whole (pos 0)) ≡ a
    step true e = refl
    step false e = absurd (eqb-false k j e h)

-- in another column than the first term's stand the others
pub past_first : (t : ℕ × ℚ) (ts : List (ℕ × ℚ)) (j : ℕ) → (t.0 ≡ j → ⊥) → coefficient (t ∷ ts) j ≡ coefficient ts j
past_first t ts j h = (λ i. at_other t.0 t.1 j h i +ℚ coefficient ts j) ∙ zero-+ℚ _

-- columns that no term has
pub beyond : (n : ℕ) (ts : List (ℕ × ℚ)) (j : ℕ) → All (λ t. t.0 < n) ts → n ≤ j → coefficient ts j ≡ whole (pos 0)
beyond n [] j h l = refl
beyond n (t ∷ ts) j h l =
    let below = All-head (λ (t : ℕ × ℚ). t.0 < n) t ts h in
    past_first t ts j (λ e. omega (arith, below, l, e)) ∙ beyond n ts j (All-tail (λ (t : ℕ × ℚ). t.0 < n) t ts h) l

-- ---- the value, column by column
-- the sum over the point's columns of a number times the point's number
abbrev pub columns_sum : (ℕ → ℚ) → List ℤ → ℚ
columns_sum f [] = whole (pos 0)
columns_sum f (x ∷ xs) = f zero *ℚ whole x +ℚ columns_sum (λ j. f (suc j)) xs

sum-zero : (p : List ℤ) → columns_sum (λ j. whole (pos 0)) p ≡ whole (pos 0)
sum-zero [] = refl
sum-zero (x ∷ xs) = (λ i. zero-*ℚ (whole x) i +ℚ sum-zero xs i) ∙ zero-+ℚ _

pub sum-add : (f g : ℕ → ℚ) (p : List ℤ) → columns_sum (λ j. f j +ℚ g j) p ≡ columns_sum f p +ℚ columns_sum g p
sum-add f g [] = sym (zero-+ℚ _)
sum-add f g (x ∷ xs) = ap (λ v. (f zero +ℚ g zero) *ℚ whole x +ℚ v) (sum-add (λ j. f (suc j)) (λ j. g (suc j)) xs) ∙ simp ring_ℚ

pub sum-same : (f g : ℕ → ℚ) → ((j : ℕ) → f j ≡ g j) → (p : List ℤ) → columns_sum f p ≡ columns_sum g p
sum-same f g h p = λ i. columns_sum (λ j. h j i) p

sum-at : (k : ℕ) (a : ℚ) (p : List ℤ) → columns_sum (at_column k a) p ≡ a *ℚ whole (number_at p k)
sum-at k a [] = sym (*ℚ-zero a)
sum-at zero a (x ∷ xs) =
    (λ i. a *ℚ whole x +ℚ (sum-same _ _ (λ j. ap (λ b. cond b a (whole (pos 0))) (eqb-zero-suc j)) xs ∙ sum-zero xs) i) ∙ +ℚ-zero _
sum-at (suc k) a (x ∷ xs) =
    (λ i. (ap (λ b. cond b a (whole (pos 0)) *ℚ whole x) (eqb-suc-zero k) ∙ zero-*ℚ (whole x)) i
    +ℚ (sum-same _ _ (λ j. ap (λ b. cond b a (whole (pos 0))) (eqb-suc-suc k j)) xs ∙ sum-at k a xs) i) ∙ zero-+ℚ _

pub value-columns : (ts : List (ℕ × ℚ)) (p : List ℤ) → value ts p ≡ columns_sum (coefficient ts) p
value-columns [] p = sym (sum-zero p)
value-columns (t ∷ ts) p = (λ i. sym (sum-at t.0 t.1 p) i +ℚ value-columns ts p i) ∙ sym (sum-add (at_column t.0 t.1) (coefficient ts) p)

-- equal coefficients give equal values
pub value-same : (ts us : List (ℕ × ℚ)) (p : List ℤ) → SameCoefficients ts us → value ts p ≡ value us p
value-same ts us p h = value-columns ts p ∙ sum-same _ _ h p ∙ sym (value-columns us p)

-- no coefficients give the value 0
pub value-none : (ts : List (ℕ × ℚ)) (p : List ℤ) → SameCoefficients ts [] → value ts p ≡ whole (pos 0)
value-none ts p h = value-same ts [] p h

integer-sum : (f : ℕ → ℚ) (p : List ℤ) → ((j : ℕ) → IsWhole (f j)) → IsAnInteger (columns_sum f p)
integer-sum f [] h = (pos 0, refl)
integer-sum f (x ∷ xs) h = integer-+ _ _ (integer-* (f zero) x (integer_from_whole _ (h zero))) (integer-sum (λ j. f (suc j)) xs (λ j. h (suc j)))

-- whole coefficients give whole values
pub integer-value : (ts : List (ℕ × ℚ)) (p : List ℤ) → ((j : ℕ) → IsWhole (coefficient ts j)) → IsAnInteger (value ts p)
integer-value ts p h = subst IsAnInteger (sym (value-columns ts p)) (integer-sum (coefficient ts) p h)
