-- The test of points whose numbers need not be whole.
use Rattle.std.specs.Prelude.{Bool, true, false, not, ◌&&◌, List, [], ◌∷◌, Option, Some, None}
use Rattle.std.specs.List.{list_all}
use Rattle.std.specs.Ordering.{is_le}
use Rattle.fraction.specs.Rational.{ℚ, whole}
use Rattle.fraction.specs.Checked.{compare}
use Rattle.problem_box.specs.declared.span.Span.{Span}
use Rattle.problem.specs.declared.row.Row.{Row}
use Rattle.problem.specs.Problem.{Problem}
use Rattle.derivation_book.specs.declared.cut.Cut.{Cut}
use Rattle.derivation_book.specs.Legal.{has_whole_objective, reaches}
use Rattle.dual_simplex.specs.Relaxation.{RationalPoint}
use Rattle.dual_simplex.specs.PointSums.{checked_sum}
use Rattle.event_core.specs.Feasibility.{stands}

-- the test for a number between a column's bounds
abbrev pub lies_in : Span → ℚ → Bool
lies_in s x = is_le (compare (whole s.lo) x) && is_le (compare x (whole s.hi))

-- one number per span, each between the span's ends
abbrev pub lies_in_box : List Span → RationalPoint → Bool
lies_in_box [] [] = true
lies_in_box [] (x ∷ xs) = false
lies_in_box (s ∷ ss) [] = false
lies_in_box (s ∷ ss) (x ∷ xs) = lies_in s x && lies_in_box ss xs

-- the row's sum is there, and stands to the right side as the sense says
abbrev pub sum_stands : Row → Option ℚ → Bool
sum_stands r None = false
sum_stands r (Some v) = stands r.sense (compare v r.rhs)

-- the test for a row at a rational point; false where its sum does not fit
abbrev pub satisfies_row : RationalPoint → Row → Bool
satisfies_row x r = sum_stands r (checked_sum r.terms x)

-- a point of the box that satisfies all rows and these cuts, and no sum of these is cramped
abbrev pub is_relaxed : Problem → List Cut → List Span → RationalPoint → Bool
is_relaxed p cs box x = lies_in_box box x && list_all (λ (r : Row). satisfies_row x r) p.rows && list_all (λ (c : Cut). satisfies_row x c.row) cs

-- the sum of the aim is there; rounded up where the objective is whole, it is below the cutoff, if there is one
abbrev pub is_below_cutoff : Problem → Option ℚ → Option ℚ → Bool
is_below_cutoff p cutoff None = false
is_below_cutoff p cutoff (Some v) = not (reaches cutoff (has_whole_objective p) (Some v))
