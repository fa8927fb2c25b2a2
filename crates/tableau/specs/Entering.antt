-- The entering variable, by the ratio test of the dual simplex: of the eligible nonbasic variables the one of least ratio, and of least number on a tie.
use Rattle.std.specs.Prelude.{ℕ, pos, ◌+◌, int_lt, List, [], ◌∷◌, Option, Some, None, Bool, false, ◌&&◌, if◌then◌else◌}
use Rattle.std.specs.Ordering.{is_lt}
use Rattle.std.specs.Option.{option_and_then, option_map}
use Rattle.fraction.specs.Rational.{ℚ}
use Rattle.fraction.specs.Checked.{div_checked, abs_ℚ, compare}
use Rattle.tableau.specs.declared.bounds.Bounds.{Bounds}
use Rattle.tableau.specs.declared.bounds.Direction.{Direction}
use Rattle.tableau.specs.declared.bounds.Direction.TheVariants.{Rise, Fall}
use Rattle.tableau.specs.declared.status.BasisStatus.{BasisStatus}
use Rattle.tableau.specs.declared.status.BasisStatus.TheVariants.{Basic, AtLower, AtUpper}
use Rattle.tableau.specs.Elimination.{Coefficients, entry}
use Rattle.tableau.specs.Leaving.{bounds_differ}

-- whether the leaving variable goes its direction where this nonbasic variable goes away from its bound; t is its coefficient in the leaving row
abbrev pub is_eligible : Direction → BasisStatus → ℚ → Bool
is_eligible w Basic t = false
is_eligible Rise AtLower t = int_lt (pos 0) t.num
is_eligible Rise AtUpper t = int_lt t.num (pos 0)
is_eligible Fall AtLower t = int_lt t.num (pos 0)
is_eligible Fall AtUpper t = int_lt (pos 0) t.num

-- the variable of least ratio so far, with its ratio, or this one
abbrev pub better : ℕ → ℚ → Option (ℕ × ℚ) → Option (ℕ × ℚ)
better j q None = Some (j, q)
better j q (Some best) = if is_lt (compare q best.1) then Some (j, q) else Some best

-- one variable more: where it is eligible and not fixed, the ratio is |d| / |t|, d being its reduced cost; none where this is cramped
abbrev pub with_ratio : ℕ → Direction → Option (ℕ × ℚ) → BasisStatus → Bounds → ℚ → ℚ → Option (Option (ℕ × ℚ))
with_ratio j w best s b d t =
    if is_eligible w s t && bounds_differ b then option_map (λ q. better j q best) (div_checked (abs_ℚ d) (abs_ℚ t)) else Some best

-- the variables from j on, by the leaving row
abbrev pub entering_from : ℕ → Direction → Option (ℕ × ℚ) → List BasisStatus → List Bounds → List ℚ → Coefficients → Option (Option (ℕ × ℚ))
entering_from j w best [] bs ds row = Some best
entering_from j w best (s ∷ ss) [] ds row = Some best
entering_from j w best (s ∷ ss) (b ∷ bs) [] row = Some best
entering_from j w best (s ∷ ss) (b ∷ bs) (d ∷ ds) row =
    option_and_then (λ best. entering_from (j + 1) w best ss bs ds row) (with_ratio j w best s b d (entry row j))
