-- Where a node may be split, and for which reason.
use Rattle.std.specs.Prelude.{◌≡◌, ◌≤◌, ℕ, zero, suc, ℤ, ◌+ℤ◌, ◌≤ℤ◌, int_le, int_lt, Bool, true, false, not, ◌&&◌, nat_eq, nat_le, IsTrue, List, [], ◌∷◌, All, take, length, Option, Some, None, slice_get}
use Rattle.std.specs.List.{list_all}
use Rattle.std.specs.Option.{ForSome}
use Rattle.std.specs.Ordering.{int_eq}
use Rattle.fraction.specs.Rational.{ℚ, floor, floor_div}
use Rattle.fraction.specs.Order.{◌<ℚ◌}
use Rattle.fraction.specs.Whole.{IsWhole}
use Rattle.problem_box.specs.declared.span.Span.{Span}
use Rattle.problem_box.specs.Changes.{IsFirstFree}
use Rattle.problem.specs.Problem.{Problem}
use Rattle.problem.specs.Directions.{aim}
use Rattle.node_events.specs.declared.reason.Reason.{Reason}
use Rattle.node_events.specs.declared.reason.Reason.TheVariants.{Fractional, Cramped, Stalled}
use Rattle.derivation_book.specs.declared.cut.Cut.{Cut}
use Rattle.derivation_book.specs.Legal.{has_whole_objective, rounded_if}
use Rattle.dual_simplex.specs.declared.answer.Answer.{Answer}
use Rattle.dual_simplex.specs.declared.answer.Answer.TheVariants.{Infeasible, Optimal, Cramped as CrampedRun, Stalled as StalledRun}
use Rattle.dual_simplex.specs.Relaxation.{RationalPoint, rational_at, rational_value, IsInRelaxation}
use Rattle.dual_simplex.specs.PointSums.{checked_sum, sums_fit}
use Rattle.dual_simplex.specs.Answers.{answer}
use Rattle.event_core.specs.Relaxed.{is_relaxed, is_below_cutoff}

-- there is a span, and it has the bound and the number after it
abbrev pub has_both : Option Span → ℤ → Bool
has_both None b = false
has_both (Some s) b = int_le s.lo b && int_lt b s.hi

-- how many cuts the reason's linear program has
abbrev pub cuts_of : Reason → ℕ
cuts_of (Fractional k x) = k
cuts_of (Cramped k pivots) = k
cuts_of (Stalled k) = k

-- ---- the meaning
-- a point of the relaxation with an aim, rounded up where the objective is whole, below the cutoff; in the column it isn't whole and has this floor
pub record IsFractional (p : Problem) (cs : List Cut) (box : List Span) (cutoff : Option ℚ) (j : ℕ) (b : ℤ) (x : RationalPoint) : Type 0 where
  pub relaxed : IsInRelaxation p cs box x
  pub sums : IsTrue (sums_fit p cs x)
  pub below : ForSome cutoff (λ z. rounded_if (has_whole_objective p) (rational_value (aim p) x) <ℚ z)
  pub not_whole : IsWhole (rational_at x j) → ⊥
  pub bound : floor (rational_at x j) ≡ b

-- half the sum of the bounds of the least column with more than one number, rounded down
pub record IsMiddle (box : List Span) (j : ℕ) (b : ℤ) : Type 0 where
  pub free : IsFirstFree box j
  pub bound : b ≡ floor_div (free.span.lo +ℤ free.span.hi) 2

-- the reason of a split holds: a point of the relaxation that lies between the two parts, or a run that was cramped or stalled, and the middle of
-- the first free column
abbrev pub IsGiven : Problem → List Cut → List Span → Option ℚ → ℕ → ℤ → Reason → Type 0
IsGiven p cs box cutoff j b (Fractional k x) = IsFractional p (take k cs) box cutoff j b x
IsGiven p cs box cutoff j b (Cramped k pivots) = (answer p (take k cs) box ≡ CrampedRun pivots) × IsMiddle box j b
IsGiven p cs box cutoff j b (Stalled k) = (answer p (take k cs) box ≡ StalledRun) × IsMiddle box j b

-- the reason holds for a split of this box in column j at b
pub record IsReason (p : Problem) (cs : List Cut) (box : List Span) (cutoff : Option ℚ) (j : ℕ) (b : ℤ) (reason : Reason) : Type 0 where
  pub nonempty : All (λ (s : Span). s.lo ≤ℤ s.hi) box
  pub few_cuts : cuts_of reason ≤ length cs
  pub given : IsGiven p cs box cutoff j b reason

-- ---- the test
-- the number isn't whole, and has this floor
abbrev pub is_between : ℚ → ℤ → Bool
is_between x b = not (nat_eq x.den 1) && int_eq (floor x) b

-- the test for a fractional reason
abbrev pub is_fractional : Problem → List Cut → List Span → Option ℚ → ℕ → ℤ → RationalPoint → Bool
is_fractional p cs box cutoff j b x = is_between (rational_at x j) b && is_relaxed p cs box x && is_below_cutoff p cutoff (checked_sum (aim p) x)

-- the column is the least one with more than one number
abbrev pub is_first_free : List Span → ℕ → Bool
is_first_free [] j = false
is_first_free (s ∷ ss) zero = int_lt s.lo s.hi
is_first_free (s ∷ ss) (suc j) = not (int_lt s.lo s.hi) && is_first_free ss j

-- there is a span, and the bound is half the sum of its bounds, rounded down
abbrev pub is_half : Option Span → ℤ → Bool
is_half None b = false
is_half (Some s) b = int_eq b (floor_div (s.lo +ℤ s.hi) 2)

-- the test for the middle of the first free column
abbrev pub is_middle : List Span → ℕ → ℤ → Bool
is_middle box j b = is_first_free box j && is_half (slice_get box j) b

-- the test for a run that was cramped after so many pivots
abbrev pub is_cramped : ℕ → Answer → Bool
is_cramped n (Infeasible mult) = false
is_cramped n (Optimal x mult v) = false
is_cramped n (CrampedRun pivots) = nat_eq pivots n
is_cramped n StalledRun = false

-- the test for a run that stalled
abbrev pub is_stalled : Answer → Bool
is_stalled (Infeasible mult) = false
is_stalled (Optimal x mult v) = false
is_stalled (CrampedRun pivots) = false
is_stalled StalledRun = true

-- the test for a reason that holds
abbrev pub is_given : Problem → List Cut → List Span → Option ℚ → ℕ → ℤ → Reason → Bool
is_given p cs box cutoff j b (Fractional k x) = is_fractional p (take k cs) box cutoff j b x
is_given p cs box cutoff j b (Cramped k pivots) = is_middle box j b && is_cramped pivots (answer p (take k cs) box)
is_given p cs box cutoff j b (Stalled k) = is_middle box j b && is_stalled (answer p (take k cs) box)

-- the reason holds for a split of this box in column j at b
abbrev pub is_reason : Problem → List Cut → List Span → Option ℚ → ℕ → ℤ → Reason → Bool
is_reason p cs box cutoff j b reason = list_all (λ (s : Span). int_le s.lo s.hi) box && nat_le (cuts_of reason) (length cs) && is_given p cs box cutoff j b reason
