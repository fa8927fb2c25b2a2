-- What scaled programs promise: in small numbers the run of a scaled program, read with scales, is that of the program that it stands for.
use Rattle.std.specs.Prelude.{◌*◌, ℤ, nat_abs, ◌≡◌, ◌<◌, ℕ, Some, IsSome, drop}
use Rattle.tableau.specs.declared.place.Place.TheVariants.{Pivot}
use Rattle.tableau.specs.Invariants.{IsTableauOf}
use Rattle.tableau.specs.LinearProgram.{LinearProgram}
use Rattle.tableau.specs.Multipliers.{direction_of, mult_of_cost, mult_of_row, numbered, point_of, row_multipliers}
use Rattle.tableau.specs.Pivot.{pivoted}
use Rattle.tableau.specs.Place.{place}
use Rattle.tableau.specs.Run.{run_from}
use Rattle.tableau.specs.Start.{started}
use Rattle.tableau.specs.Tableau.{Tableau, row_of}
use Rattle.integer_tableau.specs.Range.{size_limit}
use Rattle.integer_tableau.specs.Scales.{Scales, unscaled, unscaled_end, scaled_by, unscaled_program, unscaled_row}
use Rattle.integer_tableau.specs.Small.{IsOver, IsShaped}
use Rattle.fraction.specs.Bounds.{Within}
use Rattle.fraction.specs.Checked.{mul_checked}
use Rattle.fraction.specs.Rational.{ℚ, whole, ◌*ℚ◌}
use Rattle.scaled_program.specs.Sizes.{IsSmall, RunIsSmall}

-- the start, where it isn't cramped
abbrev pub StartsAreRead : Type 0
StartsAreRead = (σ : Scales) (s : ℕ) (p : LinearProgram) (t : Tableau) → IsSmall σ s t → started p ≡ Some t → started (unscaled_program σ s p) ≡ Some (unscaled σ s t)

-- the place, as it is
abbrev pub PlacesAreRead : Type 0
PlacesAreRead = (σ : Scales) (s : ℕ) (t : Tableau) → IsSmall σ s t → place (unscaled σ s t) ≡ place t

-- the pivot that the place asks for: it isn't cramped where it isn't in the scaled program
abbrev pub PivotsAreRead : Type 0
PivotsAreRead =
    (n : ℕ) (σ : Scales) (s : ℕ) (t u : Tableau) (r c : ℕ)
    → IsShaped n t → IsSmall σ s t → IsSmall σ s u → place t ≡ Pivot r c → pivoted r c t ≡ Some u → pivoted r c (unscaled σ s t) ≡ Some (unscaled σ s u)

-- the run
abbrev pub RunsAreRead : Type 0
RunsAreRead =
    (n : ℕ) (p : LinearProgram) (σ : Scales) (s cap : ℕ) (t : Tableau)
    → IsTableauOf n p t → RunIsSmall σ s cap t → IsSome (run_from cap t).tableau → run_from cap (unscaled σ s t) ≡ unscaled_end σ s (run_from cap t)

-- ---- answers
-- the point, where columns are not scaled
abbrev pub PointsAreRead : Type 0
PointsAreRead = (σ : Scales) (s : ℕ) (t : Tableau) → ((j : ℕ) → j < t.columns → σ j ≡ 1) → point_of (unscaled σ s t) ≡ point_of t

-- a row's multiplier is that of its variable, times the row's scale over that of the costs
abbrev pub CostMultipliersAreRead : Type 0
CostMultipliersAreRead = (σ : Scales) (s : ℕ) (t : Tableau) → mult_of_cost (unscaled σ s t) ≡ numbered t.numbers (unscaled_row σ s t.columns (drop t.columns t.reduced_costs))

-- or over that of the variable that no column can help
abbrev pub RowMultipliersAreRead : Type 0
RowMultipliersAreRead =
    (σ : Scales) (s : ℕ) (t : Tableau) (r : ℕ)
    → 0 < σ r → mult_of_row (unscaled σ s t) r ≡ numbered t.numbers (unscaled_row σ (σ r) t.columns (drop t.columns (row_multipliers (direction_of t r) r (row_of t r))))

-- ---- prices
-- a multiplier of a row, of a tableau over d, times a number of that row: the row's scale falls out, and the product is over d times the scale of
-- what the tableau is solved for, as all products of a price are
abbrev pub ProductsAreThere : Type 0
ProductsAreThere =
    (d k s : ℕ) (x : ℚ) (z : ℤ) → 0 < d → 0 < k → 0 < s → d * k < size_limit → d * s < size_limit → IsOver d k x → nat_abs z < size_limit
    → (mul_checked (scaled_by k s x) (scaled_by 1 k (whole z)) ≡ Some (scaled_by 1 s (x *ℚ whole z))) × Within (d * s) (size_limit * nat_abs z) (scaled_by 1 s (x *ℚ whole z))
