-- Lemmas: sums of products over lists.
use Rattle.std.proofs.Common.{◌≡◌, ℕ, zero, suc, ◌<◌, ◌≤◌, arith, refl, ap, sym, ◌∙◌, List, [], ◌∷◌, ◌++◌, length, set, take, drop, map, replicate, inl, inr}
use Rattle.std.specs.Prelude.{◌⊎◌}
use Rattle.std.proofs.lemmas.List.{length-replicate}
use Rattle.fraction.specs.Lemmas.Bounds.{dot_value}
use Rattle.fraction.specs.Lemmas.Rational.{*ℚ_assoc, *ℚ_comm, +ℚ_assoc, mul-+ℚ, one-*ℚ, zero-*ℚ, zero-+ℚ}
use Rattle.fraction.specs.Lemmas.Ring.{*ℚ-zero, +ℚ-zero}
use Rattle.fraction.specs.Rational.{neg_ℚ, ℚ, ◌*ℚ◌, ◌+ℚ◌}
use Rattle.tableau.specs.Elimination.{entry, zero_ℚ}
use Rattle.tableau.specs.Lemmas.RowAlgebra.{dot-set, minus_one}
use Rattle.tableau.specs.Lemmas.Signs.{neg_is, one_ℚ}

pub dot-none : (xs : List ℚ) → dot_value xs [] ≡ zero_ℚ
dot-none [] = refl
dot-none (x ∷ xs) = refl

pub dot_comm : (xs ys : List ℚ) → dot_value xs ys ≡ dot_value ys xs
dot_comm [] ys = sym (dot-none ys)
dot_comm (x ∷ xs) [] = refl
dot_comm (x ∷ xs) (y ∷ ys) = λ i. *ℚ_comm x y i +ℚ dot_comm xs ys i

-- a sum over two parts
pub dot-split : (z xs y : List ℚ) → dot_value xs (z ++ y) ≡ dot_value (take (length z) xs) z +ℚ dot_value (drop (length z) xs) y
dot-split [] xs y = sym (zero-+ℚ _)
dot-split (a ∷ z) [] y = sym (zero-+ℚ zero_ℚ)
dot-split (a ∷ z) (x ∷ xs) y = ap (λ v. x *ℚ a +ℚ v) (dot-split z xs y) ∙ sym (+ℚ_assoc _ _ _)

pub dot-parts : (n : ℕ) (xs ys : List ℚ) → n ≤ length ys → dot_value xs ys ≡ dot_value (take n xs) (take n ys) +ℚ dot_value (drop n xs) (drop n ys)
dot-parts zero xs ys l = sym (zero-+ℚ _)
dot-parts (suc n) xs [] l = absurd (omega arith)
dot-parts (suc n) [] (y ∷ ys) l = sym (zero-+ℚ zero_ℚ)
dot-parts (suc n) (x ∷ xs) (y ∷ ys) l = ap (λ v. x *ℚ y +ℚ v) (dot-parts n xs ys (omega arith)) ∙ sym (+ℚ_assoc _ _ _)

-- a shorter row reads no further
pub dot-short : (xs z y : List ℚ) → length xs ≡ length z → dot_value xs (z ++ y) ≡ dot_value xs z
dot-short [] z y l = refl
dot-short (x ∷ xs) [] y l = absurd (omega arith)
dot-short (x ∷ xs) (a ∷ z) y l = ap (λ v. x *ℚ a +ℚ v) (dot-short xs z y (omega arith))

-- ---- units
pub unit : ℕ → ℕ → List ℚ
unit j zero = []
unit zero (suc n) = one_ℚ ∷ replicate n zero_ℚ
unit (suc j) (suc n) = zero_ℚ ∷ unit j n

pub length-unit : (j n : ℕ) → length (unit j n) ≡ n
unfolding unit
length-unit j zero = refl
length-unit zero (suc n) = ap suc (length-replicate n zero_ℚ)
length-unit (suc j) (suc n) = ap suc (length-unit j n)

dot-nothing : (n : ℕ) (xs : List ℚ) → dot_value xs (replicate n zero_ℚ) ≡ zero_ℚ
dot-nothing n [] = refl
dot-nothing zero (x ∷ xs) = refl
dot-nothing (suc n) (x ∷ xs) = (λ i. *ℚ-zero x i +ℚ dot-nothing n xs i) ∙ zero-+ℚ zero_ℚ

pub dot-unit : (j n : ℕ) (xs : List ℚ) → j < n → dot_value xs (unit j n) ≡ entry xs j
unfolding unit
dot-unit j zero xs l = absurd (omega arith)
dot-unit zero (suc n) [] l = refl
dot-unit (suc j) (suc n) [] l = refl
dot-unit zero (suc n) (x ∷ xs) l = (λ i. (*ℚ_comm x one_ℚ ∙ one-*ℚ x) i +ℚ dot-nothing n xs i) ∙ +ℚ-zero x
dot-unit (suc j) (suc n) (x ∷ xs) l = (λ i. *ℚ-zero x i +ℚ dot-unit j n xs (omega arith) i) ∙ zero-+ℚ _

-- ---- equal sums
pub dot-same : (ms xs ys : List ℚ) → length xs ≡ length ys → ((i : ℕ) → i < length xs → entry ms i *ℚ entry xs i ≡ entry ms i *ℚ entry ys i) → dot_value ms xs ≡ dot_value ms ys
dot-same [] xs ys l h = refl
dot-same (m ∷ ms) [] [] l h = refl
dot-same (m ∷ ms) [] (y ∷ ys) l h = absurd (omega arith)
dot-same (m ∷ ms) (x ∷ xs) [] l h = absurd (omega arith)
dot-same (m ∷ ms) (x ∷ xs) (y ∷ ys) l h = λ i. h 0 (omega arith) i +ℚ dot-same ms xs ys (omega arith) (λ k b. h (suc k) (omega arith)) i

-- where the multiplier is 0, or the two agree
pub dot-agree : (ms xs ys : List ℚ) → length xs ≡ length ys → ((i : ℕ) → i < length xs → (entry ms i ≡ zero_ℚ) ⊎ (entry xs i ≡ entry ys i)) → dot_value ms xs ≡ dot_value ms ys
dot-agree ms xs ys l h = dot-same ms xs ys l (λ i k. elim (h i k) [
  | inl e ↦ (λ j. e j *ℚ entry xs i) ∙ zero-*ℚ _ ∙ sym ((λ j. e j *ℚ entry ys i) ∙ zero-*ℚ _)
  | inr e ↦ ap (λ v. entry ms i *ℚ v) e
])

pub dot-neg : (xs ys : List ℚ) → dot_value (map neg_ℚ xs) ys ≡ minus_one *ℚ dot_value xs ys
dot-neg [] ys = sym (*ℚ-zero minus_one)
dot-neg (x ∷ xs) [] = sym (*ℚ-zero minus_one)
dot-neg (x ∷ xs) (y ∷ ys) = (λ i. (ap (λ z. z *ℚ y) (neg_is x) ∙ *ℚ_assoc minus_one x y) i +ℚ dot-neg xs ys i) ∙ sym (mul-+ℚ minus_one _ _)

-- one number of the point changed
pub dot-changed : (row x : List ℚ) (c : ℕ) (v : ℚ) → length row ≡ length x → c < length row
    → dot_value row (set x c v) +ℚ entry row c *ℚ entry x c ≡ dot_value row x +ℚ entry row c *ℚ v
dot-changed row x c v l h =
    (λ i. dot_comm row (set x c v) i +ℚ *ℚ_comm (entry row c) (entry x c) i) ∙ dot-set x row c v (sym l) (omega arith) ∙ (λ i. dot_comm x row i +ℚ *ℚ_comm v (entry row c) i)
