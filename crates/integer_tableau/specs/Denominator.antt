-- One denominator for all numbers of a tableau.
use Rattle.std.specs.Prelude.{◌≡◌, ℕ, ℤ, nat_abs, ◌<◌, List, All}
use Rattle.fraction.specs.Bounds.{Within}
use Rattle.tableau.specs.Tableau.{Tableau}
use Rattle.integer_tableau.specs.IntegerTableau.{IntegerTableau}
use Rattle.integer_tableau.specs.Range.{size_limit}
use Rattle.integer_tableau.specs.declared.position.Position.{Position}

-- each number is a multiple of 1/d, and of size at most size_limit / d
pub record HasDenominator (d : ℕ) (t : Tableau) : Type 0 where
  pub positive : 0 < d
  pub small : d < size_limit
  pub values : All (Within d size_limit) t.values
  pub reduced_costs : All (Within d size_limit) t.reduced_costs
  pub rows : All (All (Within d size_limit)) t.rows

-- the parts of a tableau on whole numbers by which the sizes of its values are known
pub record ArePartsOf (t : IntegerTableau) (positions : List Position) (nonbasic_values values : List ℤ) (denominator : ℤ) : Type 0 where
  pub positions_are : positions ≡ t.positions
  pub nonbasic_values_are : nonbasic_values ≡ t.nonbasic_values
  pub values_are : values ≡ t.values
  pub denominator_is : nat_abs denominator ≡ t.denominator
