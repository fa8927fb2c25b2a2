-- The names of passes: split off one by one from the greatest, and put together again.
use Rattle.std.specs.Prelude.{◌≡◌, ◌<◌, ◌≤◌, ◌+◌, ℕ, zero, suc, Bool, true, false, List, [], ◌∷◌, ◌++◌, Contains, max, if◌then◌else◌, refl}
use Rattle.std.proofs.Common.{◌⊎◌, ⊎_elim, sym, ◌∙◌, ap, subst, eqb, arith}
use Rattle.std.proofs.lemmas.Bool.{eq-eqb, eqb-true}
use Rattle.std.proofs.lemmas.List.Elements.{Contains-append_left, Contains-append_right}
use Rattle.std.proofs.Math.Nat.{max-eq_left, max-eq_right}
use Rattle.turn_lock.specs.Names.{greatest, without_first, names_below}
use Rattle.turn_lock.specs.Lemmas.Names.{head_in, tail_in, below}

-- a number above all others is the greatest, and taken away from the end
module _ (m : ℕ) where
  pub greatest_last : (xs : List ℕ) → ((k : ℕ) → Contains xs k → k < m) → greatest (xs ++ m ∷ []) ≡ m
  greatest_last [] low = max-eq_left (omega arith)
  greatest_last (x ∷ xs) low =
      let here = low x (head_in x xs) in
      ap (max x) (greatest_last xs (λ k c. low k (tail_in x xs k c))) ∙ max-eq_right (omega (arith, here))

  pub without_last : (xs : List ℕ) → ((k : ℕ) → Contains xs k → k < m) → without_first m (xs ++ m ∷ []) ≡ xs
  without_last [] low = ap (λ (b : Bool). if b then [] else m ∷ []) (eq-eqb m m refl)
  without_last (x ∷ xs) low = go (eqb x m) refl (without_last xs (λ k c. low k (tail_in x xs k c)))
    where
      go : (b : Bool) → eqb x m ≡ b → without_first m (xs ++ m ∷ []) ≡ xs → (if b then xs ++ m ∷ [] else x ∷ without_first m (xs ++ m ∷ [])) ≡ x ∷ xs
      go true is deeper = let same = eqb-true x m is in let here = low x (head_in x xs) in absurd (omega (arith, same, here))
      go false is deeper = ap (λ ys. x ∷ ys) deeper

-- ---- the numbers below n
pub in_below : (n k : ℕ) → k < n → Contains (names_below n) k
in_below zero k h = absurd (omega (arith, h))
in_below (suc n) k h = go (eqb k n) refl (λ l. in_below n k l)
  where
    other : eqb k n ≡ false → k ≡ n → ⊥
    other f e = let bad : true ≡ false = sym (eq-eqb k n e) ∙ f in cc

    go : (b : Bool) → eqb k n ≡ b → (k < n → Contains (names_below n) k) → Contains (names_below n ++ n ∷ []) k
    go true is deeper = subst (Contains (names_below n ++ n ∷ [])) (sym (eqb-true k n is)) (Contains-append_right (names_below n) (n ∷ []) n (head_in n []))
    go false is deeper = Contains-append_left (names_below n) (n ∷ []) k (deeper (⊎_elim (λ (l : k < n). l) (λ (e : k ≡ n). absurd (other is e)) (parted (omega (arith, h)))))
      where
        parted : k ≤ n → (k < n) ⊎ (k ≡ n)
        parted l = grind arith

pub greatest_below : (n : ℕ) → greatest (names_below (suc n)) ≡ n
greatest_below n = greatest_last n (names_below n) (below n)

pub without_below : (n : ℕ) → without_first n (names_below (suc n)) ≡ names_below n
without_below n = without_last n (names_below n) (below n)

-- ---- of one more than n
one_more : (n : ℕ) → n + 1 ≡ suc n
one_more n = omega arith

pub below_more : (n : ℕ) → names_below (n + 1) ≡ names_below n ++ n ∷ []
below_more n = ap names_below (one_more n)

pub greatest_more : (n : ℕ) → greatest (names_below (n + 1)) ≡ n
greatest_more n = ap (λ k. greatest (names_below k)) (one_more n) ∙ greatest_below n

pub without_more : (n : ℕ) → without_first n (names_below (n + 1)) ≡ names_below n
without_more n = ap (λ k. without_first n (names_below k)) (one_more n) ∙ without_below n
