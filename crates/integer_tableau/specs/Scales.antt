-- Tableaus of a scaled linear program, read as those of the program that it stands for: each variable of the scaled program is so many times the
-- program's own, and its costs are so many times the program's.
use Rattle.std.specs.Prelude.{◌≡◌, ℕ, ◌+◌, ◌-◌, ◌<◌, ◌≤◌, nat_lt, if◌then◌else◌, ℤ, pos, List, [], ◌∷◌, length, map, slice_index_or, None}
use Rattle.std.specs.Option.{option_map}
use Rattle.fraction.specs.Rational.{ℚ, frac, whole, ◌*ℚ◌}
use Rattle.tableau.specs.Leaving.{unbounded}
use Rattle.integer_tableau.specs.IntegerTableau.{fraction_bounds}
use Rattle.integer_tableau.specs.declared.integer_bounds.IntegerBounds.{IntegerBounds}
use Rattle.tableau.specs.declared.bounds.Bounds.{Bounds}
use Rattle.tableau.specs.Elimination.{Coefficients}
use Rattle.tableau.specs.LinearProgram.{LinearProgram}
use Rattle.tableau.specs.Tableau.{Tableau}
use Rattle.tableau.specs.Run.{RunEnd}

-- how many times the program's own variable each variable of the scaled program is
abbrev pub Scales : Type 0
Scales = ℕ → ℕ

-- columns are as they are, and the variables of rows have these scales
abbrev pub scale_at : ℕ → List ℕ → Scales
scale_at columns scales i = if nat_lt i columns then 1 else slice_index_or scales (i - columns) 1

-- ---- numbers
-- a times x, over b
unfoldable pub scaled_by : ℕ → ℕ → ℚ → ℚ
scaled_by a b x = x *ℚ frac (pos a) b

-- f at each place from i on
abbrev pub map_from : {A B : Type 0} → (ℕ → A → B) → ℕ → List A → List B
map_from f i [] = []
map_from f i (x ∷ xs) = f i x ∷ map_from f (i + 1) xs

-- ---- parts
-- a value, or a bound, of a variable
abbrev pub unscaled_value : Scales → ℕ → ℚ → ℚ
unscaled_value σ i x = scaled_by 1 (σ i) x

-- the values of the variables from i on, as the program's own
abbrev pub unscaled_values : Scales → ℕ → List ℚ → List ℚ
unscaled_values σ i xs = map_from (unscaled_value σ) i xs

-- bounds, over k
abbrev pub bounds_over : ℕ → Bounds → Bounds
bounds_over k b = record { lower = option_map (scaled_by 1 k) b.lower; upper = option_map (scaled_by 1 k) b.upper }

-- the bounds of variable i, as the program's own
abbrev pub unscaled_bounds : Scales → ℕ → Bounds → Bounds
unscaled_bounds σ i b = bounds_over (σ i) b

-- the bounds of the variables from i on, as the program's own
abbrev pub all_bounds : Scales → ℕ → List Bounds → List Bounds
all_bounds σ i bs = map_from (unscaled_bounds σ) i bs

-- the coefficients from variable j on of a row that stands for so many times the program's own: each column's unit is as many times smaller
abbrev pub unscaled_row : Scales → ℕ → ℕ → Coefficients → Coefficients
unscaled_row σ s j row = map_from (λ j x. scaled_by (σ j) s x) j row

-- the rows of the variables from i on
abbrev pub unscaled_rows : Scales → ℕ → List Coefficients → List Coefficients
unscaled_rows σ i rows = map_from (λ i row. unscaled_row σ (σ i) 0 row) i rows

-- ---- all of it, where the costs are s times the program's
-- the tableau of the program itself that a scaled tableau is read as
abbrev pub unscaled : Scales → ℕ → Tableau → Tableau
unscaled σ s t = record {
  columns = t.columns;
  numbers = t.numbers;
  bounds = all_bounds σ 0 t.bounds;
  statuses = t.statuses;
  nonbasic_values = unscaled_values σ 0 t.nonbasic_values;
  rows = unscaled_rows σ 0 t.rows;
  reduced_costs = unscaled_row σ s 0 t.reduced_costs;
  values = unscaled_values σ 0 t.values;
  pivots = t.pivots;
}

-- the end of a run, with its tableau as one of the program itself
abbrev pub unscaled_end : Scales → ℕ → RunEnd → RunEnd
unscaled_end σ s e = record { place = e.place; pivots = e.pivots; tableau = option_map (unscaled σ s) e.tableau }

-- the program itself: a row's variable comes behind those of the columns
abbrev pub unscaled_program : Scales → ℕ → LinearProgram → LinearProgram
unscaled_program σ s p = record {
  rows = unscaled_rows σ (length p.costs) p.rows;
  costs = unscaled_row σ s 0 p.costs;
  bounds = all_bounds σ 0 p.bounds;
  numbers = p.numbers;
}

-- ---- scales that code keeps
-- none is 0, or greater than this
pub record AreScalesTo (greatest : ℕ) (scales : List ℕ) (cost_scale : ℕ) : Type 0 where
  pub one : 0 < greatest
  pub each : (i : ℕ) → i < length scales → (0 < slice_index_or scales i 1) × (slice_index_or scales i 1 ≤ greatest)
  pub costs : (0 < cost_scale) × (cost_scale ≤ greatest)

-- ---- parts of a program that was scaled
-- these bounds, over the scales, are the program's
abbrev pub AreScaledBounds : ℕ → List ℕ → List IntegerBounds → List Bounds → Type 0
AreScaledBounds columns scales integers bounds = (i : ℕ) → i < length integers
    → bounds_over (scale_at columns scales i) (fraction_bounds (slice_index_or integers i (record { lower = None; upper = None }))) ≡ slice_index_or bounds i unbounded

-- so are these rows
abbrev pub AreScaledRows : List ℕ → List (List ℤ) → List Coefficients → Type 0
AreScaledRows scales integers rows = (i : ℕ) → i < length integers → map (λ z. scaled_by 1 (slice_index_or scales i 1) (whole z)) (slice_index_or integers i []) ≡ slice_index_or rows i []
