-- What holds at each place of a list.
use Rattle.std.specs.Prelude.{◌≡◌, ◌⊎◌, ◌<◌, ◌+◌, ℕ, zero, suc, List, [], ◌∷◌, ◌++◌, length, slice_index_or, refl}
use Rattle.std.proofs.Common.{⊎_elim, sym, subst, arith}
use Rattle.std.proofs.lemmas.List.{length-append}
use Rattle.crew.specs.Gates.{EachAt}

place : (i n : ℕ) → i < n + 1 → (i < n) ⊎ (i ≡ n)
place i n h = grind arith

module _ {T : Type 0} where
  at_first : (xs ys : List T) (i : ℕ) (d : T) → i < length xs → slice_index_or (xs ++ ys) i d ≡ slice_index_or xs i d
  at_first [] ys i d h = absurd (omega (arith, h))
  at_first (x ∷ xs) ys zero d h = refl
  at_first (x ∷ xs) ys (suc i) d h = at_first xs ys i d (omega (arith, h))

  at_last : (xs : List T) (x d : T) → slice_index_or (xs ++ x ∷ []) (length xs) d ≡ x
  at_last [] x d = refl
  at_last (y ∷ xs) x d = at_last xs x d

  module _ (P : ℕ → T → Type 0) where
    pub each_push : (xs : List T) (x : T) → EachAt P xs → P (length xs) x → EachAt P (xs ++ x ∷ [])
    each_push xs x each here i d h = ⊎_elim
        (λ (l : i < length xs). subst (P i) (sym (at_first xs (x ∷ []) i d l)) (each i d l))
        (λ (e : i ≡ length xs). subst (λ k. P k (slice_index_or (xs ++ x ∷ []) k d)) (sym e) (subst (P (length xs)) (sym (at_last xs x d)) here))
        (place i (length xs) (let n = length-append xs (x ∷ []) in omega (arith, h, n)))

    pub each_first : (xs : List T) (x : T) → EachAt P (xs ++ x ∷ []) → EachAt P xs
    each_first xs x each i d h =
        subst (P i) (at_first xs (x ∷ []) i d h) (each i d (let n = length-append xs (x ∷ []) in omega (arith, h, n)))

    pub each_last : (xs : List T) (x : T) → EachAt P (xs ++ x ∷ []) → P (length xs) x
    each_last xs x each = subst (P (length xs)) (at_last xs x x) (each (length xs) x (let n = length-append xs (x ∷ []) in omega (arith, n)))
