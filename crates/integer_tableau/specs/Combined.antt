-- The variables of rows, of which a tableau on whole numbers keeps no rows and no values: by the linear program each is a combination of the columns.
use Rattle.std.specs.Prelude.{◌≡◌, ℕ, zero, suc, ◌+◌, ◌*◌, ◌^◌, ◌<◌, ◌≤◌, ℤ, pos, nat_abs, nat_eq, ◌+ℤ◌, ◌*ℤ◌, List, [], ◌∷◌, ◌++◌, length, map, drop, max, slice_index_or, Option, Some, None, if◌then◌else◌}
use Rattle.integer_tableau.specs.Numbers.{number_at, total_size}
use Rattle.integer_tableau.specs.Range.{size_limit}
use Rattle.integer_tableau.specs.IntegerTableau.{IntegerTableau}
use Rattle.integer_tableau.specs.Consistent.{IsConsistent}
use Rattle.integer_tableau.specs.declared.integer_bounds.IntegerBounds.{IntegerBounds}
use Rattle.integer_tableau.specs.declared.position.Position.{Position}
use Rattle.integer_tableau.specs.declared.position.Position.TheVariants.{InBasis, InColumn}

-- ---- rows
-- what a variable with this row and position says, over d, of the variable in column k: a nonbasic one says that it is itself
abbrev pub numerator_of : ℕ → List ℤ → Position → ℕ → ℤ
numerator_of d row InBasis k = number_at row k
numerator_of d row (InColumn j) k = if nat_eq k j then pos d else pos 0

-- the sum of what the columns say, each times its coefficient
abbrev pub combined : ℕ → List ℤ → List Position → List (List ℤ) → ℕ → ℤ
combined d [] positions rows k = pos 0
combined d (a ∷ coefficients) [] rows k = pos 0
combined d (a ∷ coefficients) (s ∷ positions) [] k = pos 0
combined d (a ∷ coefficients) (s ∷ positions) (row ∷ rows) k = a *ℤ numerator_of d row s k +ℤ combined d coefficients positions rows k

-- f at n places from k on
abbrev pub numbers_from : ℕ → ℕ → (ℕ → ℤ) → List ℤ
numbers_from k zero f = []
numbers_from k (suc n) f = f k ∷ numbers_from (suc k) n f

-- as a row: one number for each column
abbrev pub combined_row : ℕ → List Position → List (List ℤ) → List ℤ → List ℤ
combined_row d positions rows coefficients = numbers_from 0 (length rows) (combined d coefficients positions rows)

-- the row of a variable that is in the basis; none of another one
abbrev pub row_if_basic : Position → List ℤ → List ℤ
row_if_basic InBasis row = row
row_if_basic (InColumn k) row = []

-- the rows of the variables of rows, by their positions and the coefficients in the linear program
abbrev pub rows_behind : (List ℤ → List ℤ) → List Position → List (List ℤ) → List (List ℤ)
rows_behind f [] program_rows = []
rows_behind f (s ∷ positions) [] = []
rows_behind f (s ∷ positions) (a ∷ program_rows) = row_if_basic s (f a) ∷ rows_behind f positions program_rows

-- ---- values
-- the numerator over d of a variable's value, by its position, the bound at which it is, and the numerator of a basic one
abbrev pub value_numerator : ℤ → Position → ℤ → ℤ → ℤ
value_numerator d InBasis x v = v
value_numerator d (InColumn k) x v = x *ℤ d

-- the sum of the columns' values, each times its coefficient
abbrev pub combined_value : ℤ → List ℤ → List Position → List ℤ → List ℤ → ℤ
combined_value d [] positions xs vs = pos 0
combined_value d (a ∷ coefficients) [] xs vs = pos 0
combined_value d (a ∷ coefficients) (s ∷ positions) [] vs = pos 0
combined_value d (a ∷ coefficients) (s ∷ positions) (x ∷ xs) [] = pos 0
combined_value d (a ∷ coefficients) (s ∷ positions) (x ∷ xs) (v ∷ vs) = a *ℤ value_numerator d s x v +ℤ combined_value d coefficients positions xs vs

-- the numerators of the columns' values
abbrev pub value_numerators : ℤ → List Position → List ℤ → List ℤ → List ℤ
value_numerators d [] xs vs = []
value_numerators d (s ∷ positions) [] vs = []
value_numerators d (s ∷ positions) (x ∷ xs) [] = []
value_numerators d (s ∷ positions) (x ∷ xs) (v ∷ vs) = value_numerator d s x v ∷ value_numerators d positions xs vs

-- ---- all variables
-- the rows of all variables: those of columns, and behind them those of rows
abbrev pub expanded_rows : ℕ → List (List ℤ) → List Position → List (List ℤ) → List (List ℤ)
expanded_rows d program_rows positions rows = rows ++ rows_behind (combined_row d positions rows) (drop (length rows) positions) program_rows

-- the numerators of the values of all variables: those of columns, and behind them those of rows
abbrev pub expanded_values : ℕ → List (List ℤ) → List Position → List ℤ → List ℤ → List ℤ
expanded_values d program_rows positions xs vs = vs ++ map (λ a. combined_value (pos d) a positions xs vs) program_rows

-- the tableau of all variables, of one that keeps rows and values of columns
abbrev pub expanded : List (List ℤ) → IntegerTableau → IntegerTableau
expanded program_rows t = record t {
  rows = expanded_rows t.denominator program_rows t.positions t.rows;
  values = expanded_values t.denominator program_rows t.positions t.nonbasic_values t.values;
}

-- ---- what holds of one that keeps rows and values of columns
-- the size of a bound, 0 where there is none
abbrev pub size_of : Option ℤ → ℕ
size_of None = 0
size_of (Some z) = nat_abs z

-- the size of the greater bound
abbrev pub bound_size : IntegerBounds → ℕ
bound_size b = max (size_of b.lower) (size_of b.upper)

-- the sum of the sizes of the greater bounds
abbrev pub total_bound_size : List IntegerBounds → ℕ
total_bound_size [] = 0
total_bound_size (b ∷ bs) = bound_size b + total_bound_size bs

-- by the rows of the linear program, of which none has coefficients of a greater size together than the weight; no column has a bound greater than `reach`
pub record IsCompact (program_rows : List (List ℤ)) (weight reach : ℕ) (t : IntegerTableau) : Type 0 where
  pub consistent : IsConsistent (expanded program_rows t)
  pub costs : length t.reduced_costs ≡ length t.rows
  pub values : length t.values ≡ length t.rows
  pub variables : length t.positions ≡ length t.rows + length program_rows
  pub full : (i : ℕ) → i < length program_rows → length (slice_index_or program_rows i []) ≡ length t.rows
  -- by the combination a nonbasic row variable says that it is itself
  pub units : (i k : ℕ) → i < length program_rows → slice_index_or t.positions (length t.rows + i) InBasis ≡ InColumn k
      → (j : ℕ) → combined t.denominator (slice_index_or program_rows i []) t.positions t.rows j ≡ numerator_of t.denominator [] (InColumn k) j
  -- so no sum of values has more than 128 bits
  pub weights : (i : ℕ) → i < length program_rows → total_size (slice_index_or program_rows i []) ≤ weight
  pub light : weight < size_limit
  pub reached : (j : ℕ) → j < length t.rows → bound_size (slice_index_or t.bounds j (record { lower = None; upper = None })) ≤ reach
  pub near : reach * t.denominator < 2 ^ 63
  -- and the nonbasic values stay small
  pub bounded : (v : ℕ) → v < length t.positions → nat_abs (number_at t.nonbasic_values v) ≤ bound_size (slice_index_or t.bounds v (record { lower = None; upper = None }))
  pub room : total_bound_size t.bounds < size_limit
