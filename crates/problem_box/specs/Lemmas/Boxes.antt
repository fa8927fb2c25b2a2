-- Lemmas: points of a box.
use Rattle.std.specs.Prelude.{◌≡◌, ℕ, zero, suc, ℤ, ◌≤ℤ◌, ◌<ℤ◌, int_le, Bool, true, false, List, [], ◌∷◌, length, Some, slice_get, refl}
use Rattle.std.specs.Bool.{Decides}
use Rattle.std.proofs.Common.{subst, arith}
use Rattle.std.proofs.lemmas.Int.{ints}
use Rattle.std.proofs.lemmas.Bool.{false≢true}
use Rattle.std.proofs.lemmas.Bool.Decides.{Decides-and}
use Rattle.problem_box.specs.declared.span.Span.{Span}
use Rattle.problem_box.specs.Boxes.{IsInBox, IsWithin, is_within, is_in_box}

pub Decides-int_le : (a b : ℤ) → Decides (int_le a b) (a ≤ℤ b)
Decides-int_le a b = step (int_le a b) refl
  where
    step : (t : Bool) → int_le a b ≡ t → Decides t (a ≤ℤ b)
    step true e = (λ _. grind (arith, ints), λ _. refl)
    step false e = (λ f. absurd (false≢true f), λ h. absurd (grind (arith, ints)))

pub Decides-in_box : (ss : List Span) (xs : List ℤ) → Decides (is_in_box ss xs) (IsInBox ss xs)
Decides-in_box [] [] = (λ _. tt, λ _. refl)
Decides-in_box [] (x ∷ xs) = (λ f. absurd (false≢true f), λ h. absurd h)
Decides-in_box (s ∷ ss) [] = (λ f. absurd (false≢true f), λ h. absurd h)
Decides-in_box (s ∷ ss) (x ∷ xs) =
    Decides-and (is_within s x) (is_in_box ss xs) (Decides-and (int_le s.lo x) (int_le x s.hi) (Decides-int_le s.lo x) (Decides-int_le x s.hi)) (Decides-in_box ss xs)

-- a point of a box has one number per span
pub IsInBox-length : (ss : List Span) (xs : List ℤ) → IsInBox ss xs → length xs ≡ length ss
IsInBox-length [] [] h = refl
IsInBox-length [] (x ∷ xs) h = absurd h
IsInBox-length (s ∷ ss) [] h = absurd h
IsInBox-length (s ∷ ss) (x ∷ xs) h = omega (arith, IsInBox-length ss xs h.1)

-- no point is in a box with a span whose ends are crossed
pub crossed-no_point : (ss : List Span) (j : ℕ) (s : Span) (x : List ℤ) → slice_get ss j ≡ Some s → s.hi <ℤ s.lo → IsInBox ss x → ⊥
crossed-no_point [] j s [] e h b = cc
crossed-no_point [] j s (x ∷ xs) e h b = absurd b
crossed-no_point (t ∷ ss) j s [] e h b = absurd b
crossed-no_point (t ∷ ss) zero s (x ∷ xs) e h b = let same : t ≡ s = cc in crossed s x h (subst (λ v. IsWithin v x) same b.0)
  where
    crossed : (s : Span) (x : ℤ) → s.hi <ℤ s.lo → IsWithin s x → ⊥
    crossed s x h w = omega (arith, ints, w.0, w.1)
crossed-no_point (t ∷ ss) (suc j) s (x ∷ xs) e h b = crossed-no_point ss j s xs e h b.1
