-- Tableaus whose numbers stay small many times over, as for a program that this one is scaled from.
use Rattle.std.specs.Prelude.{◌≡◌, ℕ, ◌+◌, ◌*◌, ◌<◌, ◌≤◌, ℤ, nat_abs, List, [], length, map, slice_index_or}
use Rattle.fraction.specs.Rational.{ℚ, frac, whole}
use Rattle.tableau.specs.Elimination.{entry}
use Rattle.tableau.specs.Invariants.{IsNonbasic}
use Rattle.tableau.specs.Tableau.{Tableau, HasSize, row_of, status_of}
use Rattle.integer_tableau.specs.Numbers.{IsWithin, total_size}
use Rattle.integer_tableau.specs.Range.{size_limit}
use Rattle.integer_tableau.specs.Combined.{combined_row}
use Rattle.integer_tableau.specs.declared.position.Position.{Position}
use Rattle.integer_tableau.specs.declared.position.Position.TheVariants.{InBasis}

-- a multiple of 1/d whose numerator, k times, has size at most 2^62
pub record IsOver (d k : ℕ) (x : ℚ) : Type 0 where
  pub numerator : ℤ
  pub small : nat_abs numerator * k ≤ size_limit
  pub exact : x ≡ frac numerator d

-- one element for each of n variables in each list, and no row for a variable that isn't basic
pub record IsShaped (n : ℕ) (t : Tableau) : Type 0 where
  pub size : HasSize n t
  pub empty : (i : ℕ) → i < n → IsNonbasic (status_of t i) → row_of t i ≡ []

-- each number is a multiple of 1/d, where d and the numerators are small even k times
pub record IsSmallTimes (k : ℕ) (t : Tableau) : Type 0 where
  pub variables : ℕ
  pub shaped : IsShaped variables t
  pub denominator : ℕ
  pub positive : 0 < denominator
  pub small : denominator * k < size_limit
  pub rows : (i j : ℕ) → IsOver denominator k (entry (row_of t i) j)
  pub costs : (j : ℕ) → IsOver denominator k (entry t.reduced_costs j)
  pub numbers : List ℤ
  pub point : t.nonbasic_values ≡ map whole numbers
  pub total : total_size numbers < size_limit

-- no number that is kept is greater in size
pub record IsKept (most d : ℕ) (rows : List (List ℤ)) (costs : List ℤ) : Type 0 where
  pub denominator : d ≤ most
  pub rows_within : (v : ℕ) → v < length rows → IsWithin most (slice_index_or rows v [])
  pub costs_within : IsWithin most costs

-- no number is greater in size than the limit, the combinations that are basic too
pub record AreNumbersWithin (limit d : ℕ) (program_rows : List (List ℤ)) (positions : List Position) (rows : List (List ℤ)) (costs : List ℤ) : Type 0 where
  pub denominator : d ≤ limit
  pub rows_within : (v : ℕ) → v < length rows → IsWithin limit (slice_index_or rows v [])
  pub costs_within : IsWithin limit costs
  pub combinations : (i : ℕ) → i < length program_rows → slice_index_or positions (length rows + i) InBasis ≡ InBasis → IsWithin limit (combined_row d positions rows (slice_index_or program_rows i []))
