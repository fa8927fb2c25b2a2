-- Lemmas: what is in a short list, and the names below a number.
use Rattle.std.proofs.Common.{◌≡◌, ◌⊎◌, inl, inr, ⊎_elim, ℕ, zero, suc, ◌<◌, List, [], ◌∷◌, length, refl, sym, arith}
use Rattle.std.specs.Prelude.{Contains}
use Rattle.std.proofs.lemmas.List.{length-append}
use Rattle.std.proofs.lemmas.List.Elements.{Contains-append_right, Contains-append_cases}
use Rattle.turn_lock.specs.Names.{names_below}

pub nothing : {X : Type 0} (e : X) → Contains [] e → ⊥
nothing e (k, low, _) = omega (arith, low)

pub head_in : {X : Type 0} (x : X) (xs : List X) → Contains (x ∷ xs) x
head_in x xs = (0, omega arith, refl)

pub only_in : {X : Type 0} (x y : X) → Contains (x ∷ []) y → y ≡ x
only_in x y (zero, _, is) = sym is
only_in x y (suc k, low, _) = absurd (omega (arith, low))

pub tail_in : {X : Type 0} (x : X) (xs : List X) (y : X) → Contains xs y → Contains (x ∷ xs) y
tail_in x xs y c = Contains-append_right (x ∷ []) xs y c

pub either_in : {X : Type 0} (x : X) (xs : List X) (y : X) → Contains (x ∷ xs) y → (y ≡ x) ⊎ Contains xs y
either_in x xs y c = ⊎_elim (λ h. inl (only_in x y h)) (λ t. inr t) (Contains-append_cases (x ∷ []) xs y c)

-- ---- the names below n
pub length_below : (n : ℕ) → length (names_below n) ≡ n
length_below zero = refl
length_below (suc n) = let before = length_below n in omega (arith, length-append (names_below n) (n ∷ []), before)

pub below : (n k : ℕ) → Contains (names_below n) k → k < n
below zero k c = absurd (nothing k c)
below (suc n) k c = ⊎_elim
    (λ (h : Contains (names_below n) k). let lt = below n k h in omega (arith, lt))
    (λ (h : Contains (n ∷ []) k). let same = only_in n k h in omega (arith, same))
    (Contains-append_cases (names_below n) (n ∷ []) k c)
