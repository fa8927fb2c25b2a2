-- Relaxations of small whole numbers: over a common denominator below 2^62 no sum of their answers is cramped.
use Rattle.std.specs.Prelude.{ℕ, ◌+◌, ◌≤◌, ◌^◌, nat_abs, List, length, All}
use Rattle.fraction.specs.Rational.{ℚ}
use Rattle.fraction.specs.Whole.{IsWhole}
use Rattle.problem.specs.declared.row.Row.{Row}
use Rattle.problem.specs.Linear.{Terms}
use Rattle.problem.specs.Problem.{Problem}
use Rattle.problem.specs.Directions.{aim}
use Rattle.problem.specs.Rising.{AreRising}
use Rattle.problem.specs.Limits.{most_columns, most_rows}
use Rattle.derivation_book.specs.declared.cut.Cut.{Cut}

-- a whole number of at most this size
pub record IsIntegerTo (size : ℕ) (q : ℚ) : Type 0 where
  pub is_whole : IsWhole q
  pub is_small : nat_abs q.num ≤ size

-- the largest coefficient and right side of a relaxation of small whole numbers
abbrev pub largest_integer : ℕ
largest_integer = 2 ^ 50

-- rising columns, with whole coefficients of at most that size
pub record HasIntegers (ts : Terms) : Type 0 where
  pub rising : AreRising ts
  pub coefficients : All (λ t. IsIntegerTo largest_integer t.1) ts

-- the right side too
pub record IsIntegerRow (r : Row) : Type 0 where
  pub terms : HasIntegers r.terms
  pub rhs : IsIntegerTo largest_integer r.rhs

-- Fewer cuts than this have numbers of 32 bits, beside those of a problem's rows and bounds.
abbrev pub most_numbered_cuts : ℕ
most_numbered_cuts = 2 ^ 27

-- the most cuts of such numbers, beside the problem's rows
abbrev pub most_small_cuts : ℕ
most_small_cuts = 1000

-- few columns, rows and cuts, all of them of such numbers
pub record IsIntegerRelaxation (p : Problem) (cs : List Cut) : Type 0 where
  pub few_columns : length p.spans ≤ most_columns
  pub few_rows : length p.rows + length cs ≤ most_rows + most_small_cuts
  pub objective : HasIntegers (aim p)
  pub rows : All IsIntegerRow p.rows
  pub cuts : All (λ (c : Cut). IsIntegerRow c.row) cs
