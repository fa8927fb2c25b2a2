-- Lemmas: a test of each element of a list, one after another.
use Rattle.std.specs.Prelude.{slice_get, ◌&&◌}
use Rattle.std.proofs.Common.{◌≡◌, ℕ, ◌+◌, ◌<◌, ◌≤◌, arith, ap, sym, ◌∙◌, Bool, true, false, Some, List, length, take}
use Rattle.std.specs.List.{list_all}
use Rattle.std.proofs.lemmas.Option.{get_or_from_slice_get}
use Rattle.std.proofs.lemmas.List.{get_or-take, length-take-le}
use Rattle.std.proofs.lemmas.List.Folds.{list_all_at, list_all_more}

-- one of the first m elements fails
pub failed_at : {X : Type 0} (p : X → Bool) (xs : List X) (m i : ℕ) (x : X) → i < m → m ≤ length xs → slice_get xs i ≡ Some x → p x ≡ false → false ≡ list_all p (take m xs)
failed_at p xs m i x l k e f =
    sym (list_all_at p (take m xs) i x (omega (arith, length-take-le m xs k, l)) (ap p (get_or-take m xs i x l ∙ get_or_from_slice_get xs i x x e) ∙ f))

-- one element more passes
pub passed_at : {X : Type 0} (p : X → Bool) (xs : List X) (i : ℕ) (x : X) → i < length xs → slice_get xs i ≡ Some x → list_all p (take i xs) ≡ true → p x ≡ true → list_all p (take (i + 1) xs) ≡ true
passed_at p xs i x l e f g = list_all_more p xs i x l ∙ (λ j. f j && (ap p (get_or_from_slice_get xs i x x e) ∙ g) j)
