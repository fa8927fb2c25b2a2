-- What a tableau asks for next.
use Rattle.std.specs.Prelude.{◌≡◌, ℕ, ◌<◌, nat_abs, List, [], Option, Some, None, slice_index_or}
use Rattle.fraction.specs.Rational.{ℚ}
use Rattle.tableau.specs.declared.bounds.Bounds.{Bounds}
use Rattle.tableau.specs.declared.bounds.Direction.{Direction}
use Rattle.tableau.specs.declared.status.BasisStatus.{BasisStatus}
use Rattle.tableau.specs.declared.status.BasisStatus.TheVariants.{Basic}
use Rattle.tableau.specs.declared.place.Place.{Place}
use Rattle.tableau.specs.declared.place.Place.TheVariants.{Done, NoColumn, Pivot, Cramped}
use Rattle.tableau.specs.Elimination.{Coefficients, entry}
use Rattle.tableau.specs.Leaving.{violation, leaving_from}
use Rattle.tableau.specs.Entering.{entering_from}
use Rattle.tableau.specs.Tableau.{Tableau, bounds_of, status_of, row_of, value_of}

-- by the ratio test for leaving variable r
abbrev pub place_entering : ℕ → Option (Option (ℕ × ℚ)) → Place
place_entering r None = Cramped
place_entering r (Some None) = NoColumn r
place_entering r (Some (Some best)) = Pivot r best.0

-- by the leaving variable
abbrev pub place_leaving : Option (ℕ × Direction) → List BasisStatus → List Bounds → List ℚ → List Coefficients → Place
place_leaving None ss bs ds rows = Done
place_leaving (Some l) ss bs ds rows = place_entering l.0 (entering_from 0 l.1 None ss bs ds (slice_index_or rows l.0 []))

-- done where no basic variable is outside its bounds; else a pivot, unless no variable is eligible or a ratio is cramped
abbrev pub place : Tableau → Place
place t = place_leaving (leaving_from 0 t.statuses t.bounds t.values) t.statuses t.bounds t.reduced_costs t.rows

-- the variables that a place names are among n
abbrev pub PlaceIsWithin : ℕ → Place → Type 0
PlaceIsWithin n Done = Unit {0}
PlaceIsWithin n (NoColumn r) = r < n
PlaceIsWithin n Cramped = Unit {0}
PlaceIsWithin n (Pivot r c) = (r < n) × (c < n)

-- what a pivot of r and c needs: r is basic and violates a bound, c isn't basic, and its coefficient in the row of r isn't 0
pub record IsPivotThere (t : Tableau) (r c : ℕ) : Type 0 where
  pub coefficient : 0 < nat_abs (entry (row_of t r) c).num
  pub direction : Direction
  pub violated : violation (bounds_of t r) (value_of t r) ≡ Some direction
  pub leaving : status_of t r ≡ Basic
  pub entering : status_of t c ≡ Basic → ⊥
