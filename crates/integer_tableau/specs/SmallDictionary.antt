-- Sizes under which no operation of a pivot is cramped.
use Rattle.std.specs.Prelude.{◌≡◌, ◌<◌, ℕ, ℤ, List, map}
use Rattle.fraction.specs.Rational.{ℚ, whole}
use Rattle.tableau.specs.Elimination.{Coefficients, entry}
use Rattle.tableau.specs.Tableau.{Tableau, row_of}
use Rattle.integer_tableau.specs.Numbers.{total_size}
use Rattle.integer_tableau.specs.Range.{size_limit}
use Rattle.integer_tableau.specs.Small.{IsOver}

-- each coefficient is a multiple of 1/d whose numerator has size at most 2^62
abbrev pub AreOver : ℕ → Coefficients → Type 0
AreOver d row = (j : ℕ) → IsOver d 1 (entry row j)

-- so is each coefficient of each row, and each reduced cost
pub record HasSmallDictionary (d : ℕ) (t : Tableau) : Type 0 where
  pub positive : 0 < d
  pub small : d < size_limit
  pub rows : (i : ℕ) → AreOver d (row_of t i)
  pub costs : AreOver d t.reduced_costs

-- whole numbers, whose sizes come to less than the limit
pub record IsSmallPoint (xs : List ℚ) : Type 0 where
  pub numbers : List ℤ
  pub whole : xs ≡ map whole numbers
  pub total : total_size numbers < size_limit
