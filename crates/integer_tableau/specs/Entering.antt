-- The entering variable, on whole numbers: ratios are compared by cross multiplication, since all have one denominator.
use Rattle.std.specs.Prelude.{ℕ, ◌+◌, ◌*◌, ℤ, pos, nat_abs, nat_eq, nat_lt, int_lt, List, [], ◌∷◌, Option, Some, None, Bool, false, ◌&&◌, ◌||◌, if◌then◌else◌}
use Rattle.tableau.specs.declared.bounds.Bounds.{Bounds}
use Rattle.tableau.specs.declared.bounds.Direction.{Direction}
use Rattle.tableau.specs.declared.bounds.Direction.TheVariants.{Rise, Fall}
use Rattle.tableau.specs.declared.status.BasisStatus.{BasisStatus}
use Rattle.tableau.specs.declared.status.BasisStatus.TheVariants.{Basic, AtLower, AtUpper}
use Rattle.tableau.specs.Leaving.{bounds_differ}
use Rattle.integer_tableau.specs.Positions.{numerator}
use Rattle.integer_tableau.specs.IntegerTableau.{fraction_bounds, bound_status, status}
use Rattle.integer_tableau.specs.declared.entering.Candidate.{Candidate}
use Rattle.integer_tableau.specs.declared.integer_bounds.IntegerBounds.{IntegerBounds}
use Rattle.integer_tableau.specs.declared.position.Position.{Position}

-- the one of least ratio; the first on a tie
abbrev pub better_candidate : Candidate → Option Candidate → Option Candidate
better_candidate b None = Some b
better_candidate b (Some best) =
    if int_lt (pos (b.reduced_cost * best.coefficient)) (pos (best.reduced_cost * b.coefficient)) then Some b else Some best

-- none where the coefficient is 0: its ratio is greater than all others
abbrev pub candidate_if_there : Candidate → Option Candidate
candidate_if_there b = if nat_eq b.coefficient 0 then None else Some b

-- as `is_eligible` has it, of the numerator of the coefficient
abbrev pub is_eligible_numerator : Direction → BasisStatus → ℤ → Bool
is_eligible_numerator w Basic t = false
is_eligible_numerator Rise AtLower t = int_lt (pos 0) t
is_eligible_numerator Rise AtUpper t = int_lt t (pos 0)
is_eligible_numerator Fall AtLower t = int_lt t (pos 0)
is_eligible_numerator Fall AtUpper t = int_lt (pos 0) t

-- of a variable at its upper bound or at its lower one
abbrev pub is_eligible_at : Direction → Bool → ℤ → Bool
is_eligible_at w u t = is_eligible_numerator w (bound_status u) t

-- the best so far with one variable more, of these numerators
abbrev pub with_candidate : ℕ → Direction → Option Candidate → BasisStatus → Bounds → ℤ → ℤ → Option Candidate
with_candidate j w best s b d t =
    if is_eligible_numerator w s t && bounds_differ b
    then better_candidate record { variable = j; reduced_cost = nat_abs d; coefficient = nat_abs t } best else best

-- ---- in any order
-- this one's ratio is less, or it is the same and its number is less
abbrev pub comes_first : Candidate → Candidate → Bool
comes_first b best = int_lt (pos (b.reduced_cost * best.coefficient)) (pos (best.reduced_cost * b.coefficient))
    || (nat_eq (b.reduced_cost * best.coefficient) (best.reduced_cost * b.coefficient) && nat_lt b.variable best.variable)

-- the candidate that a variable of these numerators is, if it may enter
abbrev pub candidate_of : ℕ → Direction → BasisStatus → Bounds → ℤ → ℤ → Option Candidate
candidate_of j w s b d t =
    if is_eligible_numerator w s t && bounds_differ b then Some record { variable = j; reduced_cost = nat_abs d; coefficient = nat_abs t } else None

-- the one that comes first
abbrev pub first_of : Option Candidate → Option Candidate → Option Candidate
first_of None best = best
first_of (Some b) None = Some b
first_of (Some b) (Some best) = if comes_first b best then Some b else Some best

-- ---- variable by variable
-- from variable j on
abbrev pub entering_by_numerators : ℕ → Direction → Option Candidate → List Position → List Bool → List IntegerBounds → List ℤ → List ℤ → Option Candidate
entering_by_numerators j w best [] us bs costs row = best
entering_by_numerators j w best (s ∷ ss) [] bs costs row = best
entering_by_numerators j w best (s ∷ ss) (u ∷ us) [] costs row = best
entering_by_numerators j w best (s ∷ ss) (u ∷ us) (b ∷ bs) costs row =
    entering_by_numerators (j + 1) w (with_candidate j w best (status s u) (fraction_bounds b) (numerator costs s) (numerator row s)) ss us bs costs row
