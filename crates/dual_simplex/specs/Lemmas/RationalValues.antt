-- Lemmas: the value of terms at a rational point, column by column.
use Rattle.std.specs.Prelude.{ℕ, zero, suc, pos, cond, [], ◌∷◌, map, length, Some, refl}
use Rattle.std.proofs.Common.{◌≡◌, ◌+◌, sym, ap, ◌∙◌, arith}
use Rattle.std.proofs.Math.Dec.{eqb-suc-suc, eqb-suc-zero, eqb-zero-suc}
use Rattle.fraction.specs.Rational.{ℚ, whole, ◌+ℚ◌, ◌*ℚ◌}
use Rattle.fraction.specs.Lemmas.Rational.{zero-+ℚ, zero-*ℚ}
use Rattle.fraction.specs.Lemmas.Ring.{ring_ℚ, +ℚ-zero, *ℚ-zero}
use Rattle.fraction.specs.Lemmas.Bounds.{dot_value, value_from_dot}
use Rattle.problem.specs.Linear.{Terms, Point, number_at, value, at_column, coefficient}
use Rattle.tableau.specs.LinearProgram.{coefficients_from}
use Rattle.dual_simplex.specs.Relaxation.{RationalPoint, rational_at, rational_value}
use Rattle.dual_simplex.specs.PointSums.{checked_sum}

-- the sum over the point's columns of a number times the point's number
abbrev pub rational_sum : (ℕ → ℚ) → RationalPoint → ℚ
rational_sum f [] = whole (pos 0)
rational_sum f (x ∷ xs) = f zero *ℚ x +ℚ rational_sum (λ j. f (suc j)) xs

rational_sum-zero : (p : RationalPoint) → rational_sum (λ j. whole (pos 0)) p ≡ whole (pos 0)
rational_sum-zero [] = refl
rational_sum-zero (x ∷ xs) = (λ i. zero-*ℚ x i +ℚ rational_sum-zero xs i) ∙ zero-+ℚ _

rational_sum-add : (f g : ℕ → ℚ) (p : RationalPoint) → rational_sum (λ j. f j +ℚ g j) p ≡ rational_sum f p +ℚ rational_sum g p
rational_sum-add f g [] = sym (zero-+ℚ _)
rational_sum-add f g (x ∷ xs) = ap (λ v. (f zero +ℚ g zero) *ℚ x +ℚ v) (rational_sum-add (λ j. f (suc j)) (λ j. g (suc j)) xs) ∙ simp ring_ℚ

rational_sum-same : (f g : ℕ → ℚ) → ((j : ℕ) → f j ≡ g j) → (p : RationalPoint) → rational_sum f p ≡ rational_sum g p
rational_sum-same f g h p = λ i. rational_sum (λ j. h j i) p

rational_sum-at : (k : ℕ) (a : ℚ) (p : RationalPoint) → rational_sum (at_column k a) p ≡ a *ℚ rational_at p k
rational_sum-at k a [] = sym (*ℚ-zero a)
rational_sum-at zero a (x ∷ xs) =
    (λ i. a *ℚ x +ℚ (rational_sum-same _ _ (λ j. ap (λ b. cond b a (whole (pos 0))) (eqb-zero-suc j)) xs ∙ rational_sum-zero xs) i) ∙ +ℚ-zero _
rational_sum-at (suc k) a (x ∷ xs) =
    (λ i. (ap (λ b. cond b a (whole (pos 0)) *ℚ x) (eqb-suc-zero k) ∙ zero-*ℚ x) i
    +ℚ (rational_sum-same _ _ (λ j. ap (λ b. cond b a (whole (pos 0))) (eqb-suc-suc k j)) xs ∙ rational_sum-at k a xs) i) ∙ zero-+ℚ _

value-sum : (ts : Terms) (p : RationalPoint) → rational_value ts p ≡ rational_sum (coefficient ts) p
value-sum [] p = sym (rational_sum-zero p)
value-sum (t ∷ ts) p = (λ i. sym (rational_sum-at t.0 t.1 p) i +ℚ value-sum ts p i) ∙ sym (rational_sum-add (at_column t.0 t.1) (coefficient ts) p)

dot-sum : (ts : Terms) (j : ℕ) (x : RationalPoint) → dot_value (coefficients_from j (length x) ts) x ≡ rational_sum (λ i. coefficient ts (j + i)) x
dot-sum ts j [] = refl
dot-sum ts j (a ∷ x) =
    λ i. coefficient ts (let e : j ≡ j + zero = omega arith in e i) *ℚ a
    +ℚ (dot-sum ts (j + 1) x ∙ rational_sum-same (λ i. coefficient ts (j + 1 + i)) (λ i. coefficient ts (j + suc i)) (λ i. ap (coefficient ts) (let e : j + 1 + i ≡ j + suc i = omega arith in e)) x) i

-- the value is the sum of the coefficients of all columns times the point's numbers
pub rational_value-dot : (ts : Terms) (x : RationalPoint) → rational_value ts x ≡ dot_value (coefficients_from 0 (length x) ts) x
rational_value-dot ts x =
    value-sum ts x ∙ rational_sum-same (coefficient ts) (λ i. coefficient ts (0 + i)) (λ i. ap (coefficient ts) (let e : i ≡ 0 + i = omega arith in e)) x ∙ sym (dot-sum ts 0 x)

-- ---- whole points
rational_at-whole : (x : Point) (j : ℕ) → rational_at (map whole x) j ≡ whole (number_at x j)
rational_at-whole [] j = refl
rational_at-whole (a ∷ x) zero = refl
rational_at-whole (a ∷ x) (suc j) = rational_at-whole x j

-- at a whole point the value is that of the problem
pub rational_value-whole : (ts : Terms) (x : Point) → rational_value ts (map whole x) ≡ value ts x
rational_value-whole [] x = refl
rational_value-whole (t ∷ ts) x = λ i. t.1 *ℚ rational_at-whole x t.0 i +ℚ rational_value-whole ts x i

-- ---- sums as they are computed
pub sum_exact : (ts : Terms) (x : RationalPoint) (v : ℚ) → checked_sum ts x ≡ Some v → v ≡ rational_value ts x
sum_exact ts x v e = value_from_dot (whole (pos 0)) (coefficients_from 0 (length x) ts) x v e ∙ zero-+ℚ _ ∙ sym (rational_value-dot ts x)
