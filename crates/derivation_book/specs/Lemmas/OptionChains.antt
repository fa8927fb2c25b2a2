-- Lemmas: chains of steps that may fail.
use Rattle.std.specs.Prelude.{◌≡◌, ℕ, suc, ◌+◌, ◌<◌, length, drop, slice_get, slice_index_or, List, ◌∷◌, Option, Some, None, option_map, refl}
use Rattle.std.specs.Option.{option_and_then}
use Rattle.std.proofs.Common.{sym, ◌∙◌, arith}
use Rattle.std.proofs.Math.Seq.{drop-cons}
use Rattle.std.proofs.lemmas.Option.{slice_get_within, get_or_from_slice_get}

-- steps one after another, in two orders
pub nothing_left : {A B : Type 0} (o : Option A) → option_and_then {T = A} {U = B} (λ a. None) o ≡ None
nothing_left None = refl
nothing_left (Some a) = refl

-- an element and then the rest of a list, each in two steps
pub in_two_steps : {A : Type 0} (first : Option A) (second : A → Option A) (rest : Option (List A)) (after : List A → Option (List A))
    (whole : List A → Option (List A)) → ((u : A) (us : List A) → whole (u ∷ us) ≡ option_and_then (λ v. option_map (λ vs. v ∷ vs) (after us)) (second u))
    → option_and_then (λ v. option_map (λ vs. v ∷ vs) (option_and_then after rest)) (option_and_then second first)
    ≡ option_and_then whole (option_and_then (λ u. option_map (λ us. u ∷ us) rest) first)
in_two_steps None second rest after whole h = refl
in_two_steps (Some u) second None after whole h = nothing_left (second u)
in_two_steps (Some u) second (Some us) after whole h = sym (h u us)

-- ---- the next element of a list
pub next_item : {A : Type 0} (xs : List A) (i : ℕ) (x : A) → i < length xs → x ≡ slice_index_or xs i x → drop i xs ≡ x ∷ drop (i + 1) xs
next_item xs i x l e =
    let k : suc i ≡ i + 1 = omega arith in
    drop-cons xs i x l ∙ (λ j. sym e j ∷ drop (k j) xs)

pub next_there : {A : Type 0} (xs : List A) (i : ℕ) (x : A) → slice_get xs i ≡ Some x → drop i xs ≡ x ∷ drop (i + 1) xs
next_there xs i x e = next_item xs i x (slice_get_within xs i x e) (sym (get_or_from_slice_get xs i x x e))
