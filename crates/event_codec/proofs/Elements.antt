-- The codes of the first elements of a list.
use Rattle.std.proofs.Common.{◌≡◌, ℕ, ◌+◌, ◌<◌, List, [], ◌∷◌, ◌++◌, length, take, get_or, sym, ap, ◌∙◌, add-one, append_assoc}
use Rattle.std.specs.List.{flat_map}
use Rattle.std.proofs.lemmas.Grind.{flat_map-append}
use Rattle.std.proofs.lemmas.List.{append-nil}
use Rattle.std.proofs.lemmas.List.Concat.{flat_map-cons}
use Rattle.std.proofs.Math.Seq.{take-suc}

-- the codes of one more element
pub one_more_at : {A : Type 0} (f : A → List ℕ) (xs : List A) (i : ℕ) (d x : A) → i < length xs → x ≡ get_or xs i d → flat_map f (take (i + 1) xs) ≡ flat_map f (take i xs) ++ f x
one_more_at f xs i d x within here =
    ap (λ n. flat_map f (take n xs)) (add-one i) ∙ ap (flat_map f) (take-suc xs i d within) ∙ flat_map-append f (take i xs) (get_or xs i d ∷ [])
    ∙ ap (λ y. flat_map f (take i xs) ++ flat_map f (y ∷ [])) (sym here)
    ∙ ap (λ y. flat_map f (take i xs) ++ y) (flat_map-cons f x [] ∙ append-nil (f x))

-- what was put behind the codes of the first elements
pub grown : (out before head front more new : List ℕ) → new ≡ out ++ more → out ≡ before ++ (head ++ front) → new ≡ before ++ (head ++ (front ++ more))
grown out before head front more new e f = rw (e, f) (simp append_assoc)
