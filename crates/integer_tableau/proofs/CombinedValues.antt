-- Values of combinations: the value of a row's variable is the sum over its row.
use Rattle.std.proofs.Common.{◌≡◌, ℕ, zero, suc, ◌≤◌, ◌<◌, arith, refl, ap, ◌∙◌, Bool, true, false, List, [], ◌∷◌, length, get_or}
use Rattle.std.specs.Prelude.{ℤ, pos, ◌+ℤ◌, ◌*ℤ◌, nat_eq, if◌then◌else◌}
use lib.IntN.{*ℤ_comm}
use Rattle.std.proofs.lemmas.Int.{ints}
use Rattle.std.proofs.lemmas.Bool.Decides.{nat_tests}
use Rattle.fraction.specs.Lemmas.Integers.{diff-add, diff-mul, diff-same, is_diff}
use Rattle.integer_tableau.specs.Combined.{combined, combined_value, numerator_of, value_numerator}
use Rattle.integer_tableau.specs.Numbers.{number_at}
use Rattle.integer_tableau.specs.Positions.{numerator, sum_over}
use Rattle.integer_tableau.specs.declared.position.Position.{Position}
use Rattle.integer_tableau.specs.declared.position.Position.TheVariants.{InBasis, InColumn}

-- the sum over the variables of what f says of their columns, times value
abbrev pub at_position : (ℕ → ℤ) → Position → ℤ
at_position f InBasis = pos 0
at_position f (InColumn k) = f k

abbrev pub sum_of : (ℕ → ℤ) → List Position → List ℤ → ℤ
sum_of f [] xs = pos 0
sum_of f (s ∷ ss) [] = pos 0
sum_of f (s ∷ ss) (x ∷ xs) = at_position f s *ℤ x +ℤ sum_of f ss xs

pub sum_of_row : (row : List ℤ) (ss : List Position) (xs : List ℤ) → sum_of (number_at row) ss xs ≡ sum_over ss row xs
sum_of_row row [] xs = refl
sum_of_row row (s ∷ ss) [] = refl
sum_of_row row (s ∷ ss) (x ∷ xs) = λ i. at s i *ℤ x +ℤ sum_of_row row ss xs i
  where
    at : (s : Position) → at_position (number_at row) s ≡ numerator row s
    at InBasis = refl
    at (InColumn k) = refl

pub sum_of_same : (f g : ℕ → ℤ) → ((k : ℕ) → f k ≡ g k) → (ss : List Position) (xs : List ℤ) → sum_of f ss xs ≡ sum_of g ss xs
sum_of_same f g h [] xs = refl
sum_of_same f g h (s ∷ ss) [] = refl
sum_of_same f g h (s ∷ ss) (x ∷ xs) = λ i. at s i *ℤ x +ℤ sum_of_same f g h ss xs i
  where
    at : (s : Position) → at_position f s ≡ at_position g s
    at InBasis = refl
    at (InColumn k) = h k

sum_of_zero : (ss : List Position) (xs : List ℤ) → sum_of (λ k. pos 0) ss xs ≡ pos 0
sum_of_zero [] xs = refl
sum_of_zero (s ∷ ss) [] = refl
sum_of_zero (s ∷ ss) (x ∷ xs) = (λ i. at s i *ℤ x +ℤ sum_of_zero ss xs i) ∙ none x
  where
    at : (s : Position) → at_position (λ k. pos 0) s ≡ pos 0
    at InBasis = refl
    at (InColumn k) = refl

    none : (x : ℤ) → pos 0 *ℤ x +ℤ pos 0 ≡ pos 0
    none x = omega (arith, ints)

sum_of_linear : (a : ℤ) (f g : ℕ → ℤ) (ss : List Position) (xs : List ℤ) → sum_of (λ k. a *ℤ f k +ℤ g k) ss xs ≡ a *ℤ sum_of f ss xs +ℤ sum_of g ss xs
sum_of_linear a f g [] xs = none a
  where
    none : (a : ℤ) → pos 0 ≡ a *ℤ pos 0 +ℤ pos 0
    none a = omega (arith, ints)
sum_of_linear a f g (s ∷ ss) [] = none a
  where
    none : (a : ℤ) → pos 0 ≡ a *ℤ pos 0 +ℤ pos 0
    none a = omega (arith, ints)
sum_of_linear a f g (s ∷ ss) (x ∷ xs) =
    (λ i. at s i *ℤ x +ℤ sum_of_linear a f g ss xs i) ∙ gather a (at_position f s) (at_position g s) x (sum_of f ss xs) (sum_of g ss xs)
  where
    at : (s : Position) → at_position (λ k. a *ℤ f k +ℤ g k) s ≡ a *ℤ at_position f s +ℤ at_position g s
    at InBasis = none a
      where
        none : (a : ℤ) → pos 0 ≡ a *ℤ pos 0 +ℤ pos 0
        none a = omega (arith, ints)
    at (InColumn k) = refl

    gather : (a f g x p q : ℤ) → (a *ℤ f +ℤ g) *ℤ x +ℤ (a *ℤ p +ℤ q) ≡ a *ℤ (f *ℤ x +ℤ p) +ℤ (g *ℤ x +ℤ q)
    gather a f g x p q = rw (is_diff a, is_diff f, is_diff g, is_diff x, is_diff p, is_diff q) (simp (diff-mul, diff-add) (diff-same _ _ _ _ (omega arith)))

-- ---- a nonbasic column
-- no variable is in column k
none_there : (d k : ℕ) (row : List ℤ) (ss : List Position) (xs : List ℤ) → ((v : ℕ) → get_or ss v InBasis ≡ InColumn k → ⊥) → sum_of (numerator_of d row (InColumn k)) ss xs ≡ pos 0
none_there d k row [] xs h = refl
none_there d k row (s ∷ ss) [] h = refl
none_there d k row (s ∷ ss) (x ∷ xs) h = (λ i. at s (h zero) i *ℤ x +ℤ none_there d k row ss xs (λ v. h (suc v)) i) ∙ none x
  where
    at : (s : Position) → (s ≡ InColumn k → ⊥) → at_position (numerator_of d row (InColumn k)) s ≡ pos 0
    at InBasis n = refl
    at (InColumn j) n = ap (λ b. if b then pos d else pos 0) (apart (nat_eq j k) refl)
      where
        apart : (b : Bool) → nat_eq j k ≡ b → nat_eq j k ≡ false
        apart true e = absurd (n (ap InColumn (grind (arith, nat_tests))))
        apart false e = e

    none : (x : ℤ) → pos 0 *ℤ x +ℤ pos 0 ≡ pos 0
    none x = omega (arith, ints)

-- variable j alone is
pub one_there : (d k : ℕ) (row : List ℤ) (j : ℕ) (ss : List Position) (xs : List ℤ) → length xs ≡ length ss → j < length ss → get_or ss j InBasis ≡ InColumn k
    → ((v : ℕ) → get_or ss v InBasis ≡ InColumn k → v ≡ j) → sum_of (numerator_of d row (InColumn k)) ss xs ≡ number_at xs j *ℤ pos d
one_there d k row j [] xs e l at alone = absurd (omega arith)
one_there d k row j (s ∷ ss) [] e l at alone = absurd (omega arith)
one_there d k row zero (s ∷ ss) (x ∷ xs) e l at alone =
    (λ i. (ap (at_position (numerator_of d row (InColumn k))) at ∙ ap (λ b. if b then pos d else pos 0) same) i *ℤ x +ℤ none_there d k row ss xs (λ v q. let z : suc v ≡ zero = alone (suc v) q in omega (arith, z)) i)
    ∙ turn (pos d) x
  where
    same : nat_eq k k ≡ true
    same = grind (arith, nat_tests)

    turn : (d x : ℤ) → d *ℤ x +ℤ pos 0 ≡ x *ℤ d
    turn d x = plain (d *ℤ x) ∙ *ℤ_comm d x
      where
        plain : (y : ℤ) → y +ℤ pos 0 ≡ y
        plain y = omega (arith, ints)
one_there d k row (suc j) (s ∷ ss) (x ∷ xs) e l at alone =
    (λ i. here s (λ q. let z : zero ≡ suc j = alone zero q in omega (arith, z)) i *ℤ x
    +ℤ one_there d k row j ss xs (omega arith) (omega arith) at (λ v q. let z : suc v ≡ suc j = alone (suc v) q in omega (arith, z)) i)
    ∙ none x (number_at xs j *ℤ pos d)
  where
    here : (s : Position) → (s ≡ InColumn k → ⊥) → at_position (numerator_of d row (InColumn k)) s ≡ pos 0
    here InBasis n = refl
    here (InColumn j) n = ap (λ b. if b then pos d else pos 0) (apart (nat_eq j k) refl)
      where
        apart : (b : Bool) → nat_eq j k ≡ b → nat_eq j k ≡ false
        apart true e = absurd (n (ap InColumn (grind (arith, nat_tests))))
        apart false e = e

    none : (x y : ℤ) → pos 0 *ℤ x +ℤ y ≡ y
    none x y = omega (arith, ints)

-- ---- a combination
pub combined_sum : (d : ℕ) (all : List Position) (all_xs : List ℤ) (cs : List ℤ) (ss : List Position) (xs : List ℤ) (ls : List (List ℤ)) (vs : List ℤ)
    → length cs ≤ length ss → length cs ≤ length xs → length ls ≡ length cs → length vs ≡ length cs
    → ((j : ℕ) → j < length cs → sum_of (numerator_of d (get_or ls j []) (get_or ss j InBasis)) all all_xs ≡ value_numerator (pos d) (get_or ss j InBasis) (number_at xs j) (number_at vs j))
    → sum_of (combined d cs ss ls) all all_xs ≡ combined_value (pos d) cs ss xs vs
combined_sum d all all_xs [] ss xs ls vs p q r t h = sum_of_zero all all_xs
combined_sum d all all_xs (c ∷ cs) [] xs ls vs p q r t h = absurd (omega arith)
combined_sum d all all_xs (c ∷ cs) (s ∷ ss) [] ls vs p q r t h = absurd (omega arith)
combined_sum d all all_xs (c ∷ cs) (s ∷ ss) (x ∷ xs) [] vs p q r t h = absurd (omega arith)
combined_sum d all all_xs (c ∷ cs) (s ∷ ss) (x ∷ xs) (l ∷ ls) [] p q r t h = absurd (omega arith)
combined_sum d all all_xs (c ∷ cs) (s ∷ ss) (x ∷ xs) (l ∷ ls) (v ∷ vs) p q r t h =
    sum_of_linear c (numerator_of d l s) (combined d cs ss ls) all all_xs
    ∙ (λ i. c *ℤ h zero (omega arith) i +ℤ combined_sum d all all_xs cs ss xs ls vs (omega arith) (omega arith) (omega arith) (omega arith) (λ j m. h (suc j) (omega arith)) i)
