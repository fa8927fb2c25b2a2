-- What holds of a tableau on whole numbers between pivots.
use Rattle.std.specs.Prelude.{◌≡◌, ℕ, ◌-◌, ◌<◌, ◌^◌, nat_abs, [], length, slice_index_or}
use Rattle.integer_tableau.specs.Numbers.{number_at, IsWithin, total_size}
use Rattle.integer_tableau.specs.Range.{size_limit}
use Rattle.integer_tableau.specs.Positions.{IsColumnOf, sum_over}
use Rattle.integer_tableau.specs.IntegerTableau.{IntegerTableau}
use Rattle.integer_tableau.specs.declared.position.Position.{Position}
use Rattle.integer_tableau.specs.declared.position.Position.TheVariants.{InBasis, InColumn}

-- a basic variable's row has so many numbers, another one has none
abbrev pub row_width : ℕ → Position → ℕ
row_width n InBasis = n
row_width n (InColumn k) = 0

-- the parts of the tableau have sizes that fit one another, and its denominator is above 0
pub record IsConsistent (t : IntegerTableau) : Type 0 where
  pub positive : 0 < t.denominator
  pub bounds : length t.bounds ≡ length t.positions
  pub at_upper : length t.at_upper ≡ length t.positions
  pub nonbasic_values : length t.nonbasic_values ≡ length t.positions
  pub rows : length t.rows ≡ length t.positions
  pub values : length t.values ≡ length t.positions
  -- each column is that of one variable
  pub alone : (v k : ℕ) → slice_index_or t.positions v InBasis ≡ InColumn k → IsColumnOf t.positions v k
  pub within : (v k : ℕ) → slice_index_or t.positions v InBasis ≡ InColumn k → k < length t.reduced_costs
  pub widths : (v : ℕ) → v < length t.positions
      → length (slice_index_or t.rows v []) ≡ row_width (length t.reduced_costs) (slice_index_or t.positions v InBasis)
  -- the value of a basic variable is the sum over its row
  pub exact : (v : ℕ) → v < length t.positions → slice_index_or t.positions v InBasis ≡ InBasis
      → number_at t.values v ≡ sum_over t.positions (slice_index_or t.rows v []) t.nonbasic_values
  pub fits : (v : ℕ) → v < length t.positions → slice_index_or t.positions v InBasis ≡ InBasis → nat_abs (number_at t.values v) < 2 ^ 127
  -- so no sum on the way to a value is cramped
  pub small : total_size t.nonbasic_values < size_limit
  -- and no ratio, and no step of a pivot on them
  pub denominator_small : t.denominator < size_limit
  pub rows_within : (v : ℕ) → IsWithin (size_limit - 1) (slice_index_or t.rows v [])
  pub costs_within : IsWithin (size_limit - 1) t.reduced_costs
