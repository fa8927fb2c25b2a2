-- Which linear programs and which cuts a tableau is made for.
use Rattle.std.specs.Prelude.{◌≡◌, ◌<◌, ◌≤◌, ℕ, nat_abs, [], length, All, Some, IfSome, slice_index_or}
use Rattle.fraction.specs.Rational.{ℚ}
use Rattle.fraction.specs.Whole.{IsWhole}
use Rattle.problem.specs.declared.row.Row.{Row}
use Rattle.problem.specs.Rising.{AreRising}
use Rattle.problem.specs.Limits.{largest_cut_coefficient}
use Rattle.tableau.specs.declared.bounds.Bounds.{Bounds}
use Rattle.tableau.specs.Leaving.{unbounded}
use Rattle.tableau.specs.LinearProgram.{LinearProgram, variables}

-- both bounds are there
pub record IsBoxed (b : Bounds) : Type 0 where
  pub low : ℚ
  pub high : ℚ
  pub lower : b.lower ≡ Some low
  pub upper : b.upper ≡ Some high

-- one coefficient for each column in each row, bounds for each variable, both of them for each column, and a number for each row
pub record IsWellFormed (p : LinearProgram) : Type 0 where
  pub rows : (i : ℕ) → i < length p.rows → length (slice_index_or p.rows i []) ≡ length p.costs
  pub bounds : length p.bounds ≡ variables p
  pub columns : (j : ℕ) → j < length p.costs → IsBoxed (slice_index_or p.bounds j unbounded)
  pub numbers : length p.numbers ≡ length p.rows

-- each bound that is there is whole
pub record HasWholeBounds (b : Bounds) : Type 0 where
  pub lower : IfSome b.lower IsWhole
  pub upper : IfSome b.upper IsWhole

-- all numbers are whole
pub record IsIntegral (p : LinearProgram) : Type 0 where
  pub rows : All (All IsWhole) p.rows
  pub costs : All IsWhole p.costs
  pub bounds : All HasWholeBounds p.bounds

-- rising columns, with whole coefficients of at most the largest size
pub record IsCutRow (r : Row) : Type 0 where
  pub rising : AreRising r.terms
  pub coefficients : All (λ t. IsWhole t.1 × (nat_abs t.1.num ≤ largest_cut_coefficient)) r.terms
