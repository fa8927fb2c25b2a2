-- What a combination of columns says of a solution: it is the combination of the columns' values.
use Rattle.std.proofs.Common.{◌≡◌, ℕ, zero, suc, ◌*◌, ◌≤◌, ◌<◌, arith, refl, ap, sym, ◌∙◌, Bool, true, false, List, [], ◌∷◌, length, get_or}
use Rattle.std.specs.Prelude.{ℤ, pos, ◌+ℤ◌, ◌*ℤ◌, map, nat_eq, if◌then◌else◌}
use lib.IntN.{*ℤ_comm}
use Rattle.std.proofs.lemmas.Bool.Decides.{nat_tests}
use Rattle.fraction.specs.Lemmas.Bounds.{dot_value}
use Rattle.fraction.specs.Lemmas.Rational.{frac-*ℚ, frac-+ℚ_over_one, frac_same, lit_one, one-*ℚ, zero-*ℚ, zero-+ℚ}
use Rattle.fraction.specs.Lemmas.Ring.{*ℚ-zero, +ℚ-zero, ring_ℚ}
use Rattle.fraction.specs.Rational.{ℚ, frac, whole, ◌*ℚ◌, ◌+ℚ◌}
use Rattle.tableau.specs.Elimination.{entry, zero_ℚ}
use Rattle.integer_tableau.proofs.Combining.{combined_row_at}
use Rattle.integer_tableau.specs.Combined.{combined, combined_row, numerator_of}
use Rattle.integer_tableau.specs.Lemmas.Fractions.{zero_over}
use Rattle.integer_tableau.specs.Numbers.{number_at}
use Rattle.integer_tableau.specs.Positions.{IsColumnOf, coefficient, coefficients}
use Rattle.integer_tableau.specs.declared.position.Position.{Position}
use Rattle.integer_tableau.specs.declared.position.Position.TheVariants.{InBasis, InColumn}

-- what f says of a variable's column, over d; 0 of a basic one
abbrev over : ℕ → (ℕ → ℤ) → Position → ℚ
over d f InBasis = whole (pos 0)
over d f (InColumn k) = frac (f k) d

-- the sum over the variables
abbrev says : ℕ → (ℕ → ℤ) → List Position → List ℚ → ℚ
says d f ss xs = dot_value (map (over d f) ss) xs

over_row : (d : ℕ) (row : List ℤ) (ss : List Position) → coefficients d ss row ≡ map (over d (number_at row)) ss
over_row d row [] = refl
over_row d row (s ∷ ss) = λ i. at s i ∷ over_row d row ss i
  where
    at : (s : Position) → coefficient d row s ≡ over d (number_at row) s
    at InBasis = refl
    at (InColumn k) = refl

nothing : (a : ℚ) → zero_ℚ ≡ a *ℚ zero_ℚ +ℚ zero_ℚ
nothing a = sym (+ℚ-zero (a *ℚ zero_ℚ) ∙ *ℚ-zero a)

module _ (d : ℕ) (positive : 0 < d) where
  says_zero : (ss : List Position) (xs : List ℚ) → says d (λ k. pos 0) ss xs ≡ zero_ℚ
  says_zero [] xs = refl
  says_zero (s ∷ ss) [] = refl
  says_zero (s ∷ ss) (x ∷ xs) = (λ i. at s i *ℚ x +ℚ says_zero ss xs i) ∙ +ℚ-zero (zero_ℚ *ℚ x) ∙ zero-*ℚ x
    where
      at : (s : Position) → over d (λ k. pos 0) s ≡ zero_ℚ
      at InBasis = refl
      at (InColumn k) = zero_over d positive

  says_linear : (a : ℤ) (f g : ℕ → ℤ) (ss : List Position) (xs : List ℚ) → says d (λ k. a *ℤ f k +ℤ g k) ss xs ≡ whole a *ℚ says d f ss xs +ℚ says d g ss xs
  says_linear a f g [] xs = nothing (whole a)
  says_linear a f g (s ∷ ss) [] = nothing (whole a)
  says_linear a f g (s ∷ ss) (x ∷ xs) =
      (λ i. at s i *ℚ x +ℚ says_linear a f g ss xs i) ∙ gather (whole a) (over d f s) (over d g s) x (says d f ss xs) (says d g ss xs)
    where
      at : (s : Position) → over d (λ k. a *ℤ f k +ℤ g k) s ≡ whole a *ℚ over d f s +ℚ over d g s
      at InBasis = nothing (whole a)
      at (InColumn k) =
          sym (frac-+ℚ_over_one (a *ℤ f k) (g k) d positive)
          ∙ ap (λ x. x +ℚ frac (g k) d) (ap (frac (a *ℤ f k)) (let q : d ≡ 1 * d = omega arith in q) ∙ sym (frac-*ℚ a (f k) 1 d lit_one positive))

      gather : (a f g x p q : ℚ) → (a *ℚ f +ℚ g) *ℚ x +ℚ (a *ℚ p +ℚ q) ≡ a *ℚ (f *ℚ x +ℚ p) +ℚ (g *ℚ x +ℚ q)
      gather a f g x p q = simp ring_ℚ

  -- ---- a nonbasic column
  module _ (k : ℕ) (row : List ℤ) where
    abbrev own : ℕ → ℤ
    own = numerator_of d row (InColumn k)

    other : (s : Position) → (s ≡ InColumn k → ⊥) → over d own s ≡ zero_ℚ
    other InBasis n = refl
    other (InColumn j) n = ap (λ b. frac (if b then pos d else pos 0) d) (apart (nat_eq j k) refl) ∙ zero_over d positive
      where
        apart : (b : Bool) → nat_eq j k ≡ b → nat_eq j k ≡ false
        apart true e = absurd (n (ap InColumn (grind (arith, nat_tests))))
        apart false e = e

    none_there : (ss : List Position) (xs : List ℚ) → ((v : ℕ) → get_or ss v InBasis ≡ InColumn k → ⊥) → says d own ss xs ≡ zero_ℚ
    none_there [] xs h = refl
    none_there (s ∷ ss) [] h = refl
    none_there (s ∷ ss) (x ∷ xs) h = (λ i. other s (h zero) i *ℚ x +ℚ none_there ss xs (λ v. h (suc v)) i) ∙ +ℚ-zero (zero_ℚ *ℚ x) ∙ zero-*ℚ x

    one_over : over d own (InColumn k) ≡ whole (pos 1)
    one_over = ap (λ b. frac (if b then pos d else pos 0) d) same ∙ frac_same (pos d) (pos 1) d 1 positive lit_one (*ℤ_comm (pos d) (pos 1))
      where
        same : nat_eq k k ≡ true
        same = grind (arith, nat_tests)

    -- variable j alone is in column k
    one_there : (j : ℕ) (ss : List Position) (xs : List ℚ) → length xs ≡ length ss → j < length ss → get_or ss j InBasis ≡ InColumn k
        → ((v : ℕ) → get_or ss v InBasis ≡ InColumn k → v ≡ j) → says d own ss xs ≡ entry xs j
    one_there j [] xs e l at alone = absurd (omega arith)
    one_there j (s ∷ ss) [] e l at alone = absurd (omega arith)
    one_there zero (s ∷ ss) (x ∷ xs) e l at alone =
        (λ i. (ap (over d own) at ∙ one_over) i *ℚ x +ℚ none_there ss xs (λ v q. let z : suc v ≡ zero = alone (suc v) q in omega (arith, z)) i)
        ∙ +ℚ-zero (whole (pos 1) *ℚ x) ∙ one-*ℚ x
    one_there (suc j) (s ∷ ss) (x ∷ xs) e l at alone =
        (λ i. other s (λ q. let z : zero ≡ suc j = alone zero q in omega (arith, z)) i *ℚ x
        +ℚ one_there j ss xs (omega arith) (omega arith) at (λ v q. let z : suc v ≡ suc j = alone (suc v) q in omega (arith, z)) i)
        ∙ ap (λ y. y +ℚ entry xs j) (zero-*ℚ x) ∙ zero-+ℚ (entry xs j)

  -- ---- a combination
  combined_says : (all : List Position) (xs : List ℚ) (cs : List ℤ) (ss : List Position) (ls : List (List ℤ)) (ys : List ℚ) → length cs ≤ length ss → length ls ≡ length cs → length cs ≤ length ys
      → ((j : ℕ) → j < length cs → says d (numerator_of d (get_or ls j []) (get_or ss j InBasis)) all xs ≡ entry ys j)
      → says d (combined d cs ss ls) all xs ≡ dot_value (map whole cs) ys
  combined_says all xs [] ss ls ys p q r h = says_zero all xs
  combined_says all xs (c ∷ cs) [] ls ys p q r h = absurd (omega arith)
  combined_says all xs (c ∷ cs) (s ∷ ss) [] ys p q r h = absurd (omega arith)
  combined_says all xs (c ∷ cs) (s ∷ ss) (l ∷ ls) [] p q r h = absurd (omega arith)
  combined_says all xs (c ∷ cs) (s ∷ ss) (l ∷ ls) (y ∷ ys) p q r h =
      says_linear c (numerator_of d l s) (combined d cs ss ls) all xs
      ∙ (λ i. whole c *ℚ h zero (omega arith) i +ℚ combined_says all xs cs ss ls ys (omega arith) (omega arith) (omega arith) (λ j m. h (suc j) (omega arith)) i)

  -- ---- as a row
  module _ (ss : List Position) (ls : List (List ℤ)) (xs : List ℚ) (many : length ls ≤ length ss) (xs_many : length xs ≡ length ss)
      (alone : (v k : ℕ) → get_or ss v InBasis ≡ InColumn k → IsColumnOf ss v k) (within : (v k : ℕ) → get_or ss v InBasis ≡ InColumn k → k < length ls)
      (narrow : (j : ℕ) → length (get_or ls j []) ≤ length ls)
      (solves : (j : ℕ) → j < length ls → get_or ss j InBasis ≡ InBasis → dot_value (coefficients d ss (get_or ls j [])) xs ≡ entry xs j) where
    column_says : (j : ℕ) → j < length ls → (s : Position) → get_or ss j InBasis ≡ s → says d (numerator_of d (get_or ls j []) s) ss xs ≡ entry xs j
    column_says j l InBasis e = sym (ap (λ row. dot_value row xs) (over_row d (get_or ls j []) ss)) ∙ solves j l e
    column_says j l (InColumn k) e = one_there k (get_or ls j []) j ss xs xs_many (omega (arith, l, many)) e (alone j k e)

    pub row_says : (a : List ℤ) → length a ≡ length ls → dot_value (coefficients d ss (combined_row d ss ls a)) xs ≡ dot_value (map whole a) xs
    row_says a e =
        ap (λ row. dot_value row xs) (over_row d (combined_row d ss ls a) ss ∙ (λ i. map (over d (λ k. combined_row_at d a ss ls narrow within k i)) ss))
        ∙ combined_says ss xs a ss ls xs (omega (arith, e, many)) (sym e) (omega (arith, e, many, xs_many)) (λ j l. column_says j (omega (arith, l, e)) (get_or ss j InBasis) refl)
