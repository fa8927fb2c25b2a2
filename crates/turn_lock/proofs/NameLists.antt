-- Lists of distinct names.
use Rattle.std.proofs.Common.{◌≡◌, ⊎_elim, ℕ, Option, zero, suc, ◌+◌, ◌≤◌, ◌<◌, Bool, true, false, List, [], ◌∷◌, ◌++◌, length, eqb, refl, sym, ◌∙◌, subst, arith}
use Rattle.std.specs.Prelude.{Contains, if◌then◌else◌}
use Rattle.std.proofs.lemmas.Bool.{eq-eqb, eqb-true, cases_lt}
use Rattle.std.proofs.lemmas.List.Elements.{Contains-append_cases}
use Rattle.std.proofs.Math.Nat.{max-eq_left, max-eq_right}
use Rattle.turn_lock.specs.Lists.{GoesOn}
use Rattle.turn_lock.specs.Names.{AreDistinct, greatest, without_first, names_below}
use Rattle.turn_lock.specs.Lemmas.Names.{nothing, head_in, only_in, tail_in, either_in, below}

-- whatever the list is, it goes on from nothing, and behind that nobody's name was asked for
pub from_nothing : {E : Type 0} (name : E → Option ℕ) (list : List E) → GoesOn name [] [] list
from_nothing name list = (list, refl, λ e n c is has. nothing n has)

-- the greatest of some names is one of them
pub greatest_in : (xs : List ℕ) → 0 < length xs → Contains xs (greatest xs)
greatest_in [] some_names = absurd (omega (arith, some_names))
greatest_in (x ∷ []) some_names = subst (Contains (x ∷ [])) (sym (max-eq_left (omega arith))) (head_in x [])
greatest_in (x ∷ y ∷ ys) some_names = ⊎_elim
    (λ (lt : greatest (y ∷ ys) < x). subst (Contains (x ∷ y ∷ ys)) (sym (max-eq_left (omega (arith, lt)))) (head_in x (y ∷ ys)))
    (λ (le : x ≤ greatest (y ∷ ys)). subst (Contains (x ∷ y ∷ ys)) (sym (max-eq_right le)) (tail_in x (y ∷ ys) (greatest (y ∷ ys)) (greatest_in (y ∷ ys) (omega arith))))
    (cases_lt (greatest (y ∷ ys)) x)

module _ (n : ℕ) where
  pub without_in : (xs : List ℕ) (y : ℕ) → Contains (without_first n xs) y → Contains xs y
  without_in [] y c = c
  without_in (x ∷ xs) y c = go (eqb x n) (without_in xs y) c
    where
      go : (b : Bool) → (Contains (without_first n xs) y → Contains xs y) → Contains (if b then xs else x ∷ without_first n xs) y → Contains (x ∷ xs) y
      go true deeper h = tail_in x xs y h
      go false deeper h = ⊎_elim (λ (e : y ≡ x). subst (Contains (x ∷ xs)) (sym e) (head_in x xs)) (λ (t : Contains (without_first n xs) y). tail_in x xs y (deeper t)) (either_in x (without_first n xs) y h)

  pub length_without : (xs : List ℕ) → Contains xs n → length (without_first n xs) + 1 ≡ length xs
  length_without [] c = absurd (nothing n c)
  length_without (x ∷ xs) c = go (eqb x n) refl (length_without xs)
    where
      go : (b : Bool) → eqb x n ≡ b → (Contains xs n → length (without_first n xs) + 1 ≡ length xs) → length (if b then xs else x ∷ without_first n xs) + 1 ≡ length (x ∷ xs)
      go true is deeper = omega arith
      go false is deeper = ⊎_elim
          (λ (e : n ≡ x). let bad : true ≡ false = sym (eq-eqb x n (sym e)) ∙ is in cc)
          (λ (t : Contains xs n). let before = deeper t in omega (arith, before))
          (either_in x xs n c)

  pub distinct_without : (xs : List ℕ) → AreDistinct xs → AreDistinct (without_first n xs)
  distinct_without [] d = d
  distinct_without (x ∷ xs) d = go (eqb x n) (distinct_without xs d.1)
    where
      go : (b : Bool) → AreDistinct (without_first n xs) → AreDistinct (if b then xs else x ∷ without_first n xs)
      go true deeper = d.1
      go false deeper = ((λ c. d.0 (without_in xs x c)), deeper)

  pub not_without : (xs : List ℕ) → AreDistinct xs → Contains (without_first n xs) n → ⊥
  not_without [] d c = nothing n c
  not_without (x ∷ xs) d c = go (eqb x n) refl (not_without xs d.1) c
    where
      go : (b : Bool) → eqb x n ≡ b → (Contains (without_first n xs) n → ⊥) → Contains (if b then xs else x ∷ without_first n xs) n → ⊥
      go true is deeper h = d.0 (subst (Contains xs) (sym (eqb-true x n is)) h)
      go false is deeper h = ⊎_elim
          (λ (e : n ≡ x). let bad : true ≡ false = sym (eq-eqb x n (sym e)) ∙ is in cc)
          (λ (t : Contains (without_first n xs) n). deeper t)
          (either_in x (without_first n xs) n h)

pub distinct_append : (xs ys : List ℕ) → AreDistinct xs → AreDistinct ys → ((n : ℕ) → Contains xs n → Contains ys n → ⊥) → AreDistinct (xs ++ ys)
distinct_append [] ys dx dy apart = dy
distinct_append (x ∷ xs) ys dx dy apart = (
  (λ c. ⊎_elim (λ (h : Contains xs x). dx.0 h) (λ (h : Contains ys x). apart x (head_in x xs) h) (Contains-append_cases xs ys x c)),
  distinct_append xs ys dx.1 dy (λ n a b. apart n (tail_in x xs n a) b),
)

pub distinct_below : (n : ℕ) → AreDistinct (names_below n)
distinct_below zero = tt
distinct_below (suc n) = distinct_append (names_below n) (n ∷ []) (distinct_below n) ((λ c. nothing n c), tt)
    (λ k a b. let lt = below n k a in let same = only_in n k b in absurd (omega (arith, lt, same)))
