-- A linear program on whole numbers, as the linear program of fractions that it stands for.
use Rattle.std.specs.Prelude.{◌≡◌, ℕ, ◌+◌, ◌-◌, ◌<◌, ◌≤◌, ℤ, List, [], length, map, slice_index_or, Some}
use Rattle.fraction.specs.Rational.{whole}
use Rattle.problem_box.specs.declared.span.Span.{Span}
use Rattle.tableau.specs.LinearProgram.{LinearProgram}
use Rattle.integer_tableau.specs.Numbers.{IsWithin, total_size}
use Rattle.integer_tableau.specs.Range.{size_limit}
use Rattle.integer_tableau.specs.IntegerTableau.{fraction_bounds}
use Rattle.integer_tableau.specs.declared.integer_bounds.IntegerBounds.{IntegerBounds}

-- the same linear program over fractions
abbrev pub fraction_program : List (List ℤ) → List ℤ → List IntegerBounds → List ℕ → LinearProgram
fraction_program rows costs bounds numbers = record {
  rows = map (map whole) rows;
  costs = map whole costs;
  bounds = map fraction_bounds bounds;
  numbers = numbers;
}

-- the bounds of a column, by its span
abbrev pub column_bounds : Span → IntegerBounds
column_bounds s = record { lower = Some s.lo; upper = Some s.hi }

-- tableaus can start: each row is as long as the costs, each variable has bounds, and the numbers are small; no row has coefficients of a greater
-- size together than the weight
pub record CanStart (rows : List (List ℤ)) (weight : ℕ) (costs : List ℤ) (bounds : List IntegerBounds) : Type 0 where
  pub rows_full : (i : ℕ) → i < length rows → length (slice_index_or rows i []) ≡ length costs
  pub bounds_there : length bounds ≡ length costs + length rows
  pub rows_within : (i : ℕ) → i < length rows → IsWithin (size_limit - 1) (slice_index_or rows i [])
  pub costs_within : IsWithin (size_limit - 1) costs
  pub weights : (i : ℕ) → i < length rows → total_size (slice_index_or rows i []) ≤ weight
  pub light : weight < size_limit
