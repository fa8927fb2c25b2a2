-- Lists whose elements have the ranges of their types.
use Rattle.std.proofs.Common.{◌≡◌, ℕ, suc, ◌≤◌, List, [], ◌∷◌, length, take, All, subst}
use Rattle.std.specs.Prelude.{pos}
use Rattle.std.specs.List.{AllByRecursion}
use Rattle.std.proofs.lemmas.List.{take_all}
use Rattle.std.proofs.lemmas.List.Elements.{recursion_from_All}
use Rattle.fraction.specs.Rational.{ℚ, whole}
use Rattle.fraction.specs.Fits.{FitsFraction}
use Rattle.problem.specs.Rising.{RiseFrom, AreRising, AreNonzero}
use Rattle.event_codec.specs.Types.{FitsU32, AreFactors, IsMult}

-- what holds of as many elements as there are
pub all_of : {A : Type 0} (P : A → Type 0) (xs : List A) (i : ℕ) → length xs ≤ i → All P (take i xs) → AllByRecursion P xs
all_of P xs i all are = recursion_from_All P xs (subst (λ ys. All P ys) (take_all i xs all) are)

abbrev pub HasTypes : ℕ × ℚ → Type 0
HasTypes t = FitsU32 t.0 × FitsFraction t.1

factors_of : (least : ℕ) (xs : List (ℕ × ℚ)) → RiseFrom least xs → AllByRecursion (λ t. t.1 ≡ whole (pos 0) → ⊥) xs → AllByRecursion HasTypes xs → AreFactors least xs
factors_of least [] rise some typed = tt
factors_of least (x ∷ xs) rise some typed = (record { rises = rise.0; row = typed.0.0; nonzero = some.0; factor = typed.0.1 }, factors_of (suc x.0) xs rise.1 some.1 typed.1)

pub factors_from : (xs : List (ℕ × ℚ)) (i : ℕ) → length xs ≤ i → AreRising xs → AreNonzero xs → All HasTypes (take i xs) → IsMult xs
factors_from xs i all rise some typed = factors_of 0 xs rise (recursion_from_All (λ t. t.1 ≡ whole (pos 0) → ⊥) xs some) (all_of HasTypes xs i all typed)
