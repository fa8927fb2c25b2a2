-- The leaving variable: the basic variable of least number whose value is outside its bounds.
use Rattle.std.specs.Prelude.{ℕ, pos, ◌+◌, List, [], ◌∷◌, Option, Some, None, Bool, true, false, not, if◌then◌else◌}
use Rattle.std.specs.Ordering.{is_lt, is_eq}
use Rattle.std.specs.Option.{unwrap_or}
use Rattle.fraction.specs.Rational.{ℚ, whole}
use Rattle.fraction.specs.Checked.{compare}
use Rattle.tableau.specs.declared.bounds.Bounds.{Bounds}
use Rattle.tableau.specs.declared.bounds.Direction.{Direction}
use Rattle.tableau.specs.declared.bounds.Direction.TheVariants.{Rise, Fall}
use Rattle.tableau.specs.declared.status.BasisStatus.{BasisStatus}
use Rattle.tableau.specs.declared.status.BasisStatus.TheVariants.{Basic, AtLower, AtUpper}

-- the bounds of a free variable
abbrev pub unbounded : Bounds
unbounded = record { lower = None; upper = None }

-- ---- bounds
-- there is a lower bound, and the value is below it
abbrev pub is_below : ℚ → Option ℚ → Bool
is_below v None = false
is_below v (Some l) = is_lt (compare v l)

-- there is an upper bound, and the value is above it
abbrev pub is_above : ℚ → Option ℚ → Bool
is_above v None = false
is_above v (Some u) = is_lt (compare u v)

-- the direction back to the bounds of a value that is outside of them
abbrev pub violation : Bounds → ℚ → Option Direction
violation b v = if is_below v b.lower then Some Rise else if is_above v b.upper then Some Fall else None

-- the bound that is violated, by the direction back to it
abbrev pub violated_bound : Direction → Bounds → ℚ
violated_bound Rise b = unwrap_or b.lower (whole (pos 0))
violated_bound Fall b = unwrap_or b.upper (whole (pos 0))

-- the two bounds are not one number
abbrev pub ends_differ : Option ℚ → Option ℚ → Bool
ends_differ None u = true
ends_differ (Some l) None = true
ends_differ (Some l) (Some u) = not (is_eq (compare l u))

-- whether the variable isn't fixed
abbrev pub bounds_differ : Bounds → Bool
bounds_differ b = ends_differ b.lower b.upper

-- ---- the leaving variable
-- the direction in which a basic variable is outside its bounds; none of another one
abbrev pub leaving_at : BasisStatus → Bounds → ℚ → Option Direction
leaving_at Basic b v = violation b v
leaving_at AtLower b v = None
leaving_at AtUpper b v = None

-- variable i with its direction, where there is one, else the others
abbrev pub found_or : ℕ → Option Direction → Option (ℕ × Direction) → Option (ℕ × Direction)
found_or i None others = others
found_or i (Some w) others = Some (i, w)

-- from variable i on, with the direction in which it is to go; none where no basic variable is outside its bounds
abbrev pub leaving_from : ℕ → List BasisStatus → List Bounds → List ℚ → Option (ℕ × Direction)
leaving_from i [] bs vs = None
leaving_from i (s ∷ ss) [] vs = None
leaving_from i (s ∷ ss) (b ∷ bs) [] = None
leaving_from i (s ∷ ss) (b ∷ bs) (v ∷ vs) = found_or i (leaving_at s b v) (leaving_from (i + 1) ss bs vs)
