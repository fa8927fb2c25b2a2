-- Points of a box.
use Rattle.std.specs.Prelude.{ℤ, ◌≤ℤ◌, int_le, Bool, true, false, ◌&&◌, List, [], ◌∷◌}
use Rattle.problem_box.specs.declared.span.Span.{Span}

-- the number lies in the span
abbrev pub IsWithin : Span → ℤ → Type 0
IsWithin s x = (s.lo ≤ℤ x) × (x ≤ℤ s.hi)

-- one number per span, each in its span
abbrev pub IsInBox : List Span → List ℤ → Type 0
IsInBox [] [] = Unit {0}
IsInBox [] (x ∷ xs) = ⊥
IsInBox (s ∷ ss) [] = ⊥
IsInBox (s ∷ ss) (x ∷ xs) = IsWithin s x × IsInBox ss xs

-- ---- the test
-- the test for a number of the span
abbrev pub is_within : Span → ℤ → Bool
is_within s x = int_le s.lo x && int_le x s.hi

-- the test for a point of the box: as many numbers as spans, each within its own
abbrev pub is_in_box : List Span → List ℤ → Bool
is_in_box [] [] = true
is_in_box [] (x ∷ xs) = false
is_in_box (s ∷ ss) [] = false
is_in_box (s ∷ ss) (x ∷ xs) = is_within s x && is_in_box ss xs
