-- The start on whole numbers: it stands for the start of the program of fractions, and is consistent.
use Rattle.std.proofs.Common.{◌≡◌, ℕ, zero, suc, ◌+◌, ◌-◌, ◌≤◌, ◌<◌, arith, refl, ap, sym, ◌∙◌, Bool, true, false, Option, Some, None, List, [], ◌∷◌, ◌++◌, length, get_or}
use Rattle.std.specs.Prelude.{ℤ, pos, map, replicate, int_lt, if◌then◌else◌}
use Rattle.std.specs.Option.{option_map, unwrap_or}
use Rattle.std.proofs.lemmas.List.{length-append, length-replicate, length-map}
use Rattle.fraction.specs.Lemmas.Rational.{lit_one}
use Rattle.fraction.specs.Rational.{frac, whole, ℚ}
use Rattle.fraction.specs.Lemmas.Order.{below_zero}
use Rattle.integer_tableau.proofs.ExactPivots.{computed_each}
use Rattle.integer_tableau.proofs.Sums.{value_fits, value_is}
use Rattle.integer_tableau.specs.Consistent.{IsConsistent, row_width}
use Rattle.integer_tableau.specs.IntegerTableau.{IntegerTableau, bound_status, fraction_bounds, row_of_position, rows_of, statuses_of, tableau_of, values_of}
use Rattle.integer_tableau.specs.Numbers.{IsWithin, number_at, total_size}
use Rattle.integer_tableau.specs.Range.{size_limit}
use Rattle.integer_tableau.specs.Positions.{coefficient, coefficients, sum_over}
use Rattle.integer_tableau.specs.IntegerProgram.{fraction_program}
use Rattle.integer_tableau.specs.Start.{columns_from, is_negative, start_number, start_numbers}
use Rattle.integer_tableau.specs.declared.integer_bounds.IntegerBounds.{IntegerBounds}
use Rattle.integer_tableau.specs.declared.position.Position.{Position}
use Rattle.integer_tableau.specs.declared.position.Position.TheVariants.{InBasis, InColumn}
use Rattle.tableau.specs.Pivot.{computed_values}
use Rattle.tableau.specs.Start.{padded, slack_basis, start_status, start_value, start_values, started}
use Rattle.tableau.specs.Tableau.{Tableau}
use Rattle.tableau.specs.declared.status.BasisStatus.TheVariants.{AtLower, AtUpper, Basic}

-- with these values: the columns are nonbasic, and the rows' values are the basis
abbrev pub start_tableau : List (List ℤ) → List ℤ → List IntegerBounds → List ℤ → IntegerTableau
start_tableau rows costs bounds values =
    let m = length rows in
    record {
      bounds = bounds;
      positions = columns_from 0 (length costs) ++ replicate m InBasis;
      at_upper = map is_negative costs ++ replicate m false;
      nonbasic_values = start_numbers costs bounds ++ replicate m (pos 0);
      rows = replicate (length costs) [] ++ rows;
      reduced_costs = costs;
      values = values;
      denominator = 1;
      pivots = 0;
    }

-- ---- field by field
map_append : {X Y : Type 0} (f : X → Y) (xs ys : List X) → map f (xs ++ ys) ≡ map f xs ++ map f ys
map_append f [] ys = refl
map_append f (x ∷ xs) ys = ap (λ zs. f x ∷ zs) (map_append f xs ys)

map_replicate : {X Y : Type 0} (f : X → Y) (m : ℕ) (x : X) → map f (replicate m x) ≡ replicate m (f x)
map_replicate f zero x = refl
map_replicate f (suc m) x = ap (λ zs. f x ∷ zs) (map_replicate f m x)

status_is : (c : ℤ) → bound_status (is_negative c) ≡ start_status (whole c)
status_is c = as_stand (int_lt c (pos 0)) ∙ ap (λ b. if b then AtUpper else AtLower) (sym (below_zero c 1 lit_one))
  where
    as_stand : (b : Bool) → bound_status b ≡ (if b then AtUpper else AtLower)
    as_stand true = refl
    as_stand false = refl

statuses_columns : (j : ℕ) (reduced_costs : List ℤ) (ss : List Position) (us : List Bool) → statuses_of (columns_from j (length reduced_costs) ++ ss) (map is_negative reduced_costs ++ us) ≡ map start_status (map whole reduced_costs) ++ statuses_of ss us
statuses_columns j [] ss us = refl
statuses_columns j (c ∷ reduced_costs) ss us = λ i. status_is c i ∷ statuses_columns (suc j) reduced_costs ss us i

statuses_rows : (m : ℕ) → statuses_of (replicate m InBasis) (replicate m false) ≡ replicate m Basic
statuses_rows zero = refl
statuses_rows (suc m) = ap (λ ss. Basic ∷ ss) (statuses_rows m)

start_number_is : (c : ℤ) (l : IntegerBounds) → whole (start_number c l) ≡ start_value (whole c) (fraction_bounds l)
start_number_is c l = as_rest (int_lt c (pos 0)) ∙ ap (λ b. if b then unwrap_or (option_map whole l.upper) (whole (pos 0)) else unwrap_or (option_map whole l.lower) (whole (pos 0))) (sym (below_zero c 1 lit_one))
  where
    held : (o : Option ℤ) → whole (unwrap_or o (pos 0)) ≡ unwrap_or (option_map whole o) (whole (pos 0))
    held None = refl
    held (Some z) = refl

    as_rest : (b : Bool) → whole (if b then unwrap_or l.upper (pos 0) else unwrap_or l.lower (pos 0)) ≡ (if b then unwrap_or (option_map whole l.upper) (whole (pos 0)) else unwrap_or (option_map whole l.lower) (whole (pos 0)))
    as_rest true = held l.upper
    as_rest false = held l.lower

nonbasic_values_are : (reduced_costs : List ℤ) (bounds : List IntegerBounds) → map whole (start_numbers reduced_costs bounds) ≡ start_values (map whole reduced_costs) (map fraction_bounds bounds)
nonbasic_values_are [] ls = refl
nonbasic_values_are (c ∷ cs) [] = refl
nonbasic_values_are (c ∷ cs) (l ∷ ls) = λ i. start_number_is c l i ∷ nonbasic_values_are cs ls i

-- a row over all variables
row_columns : (row : List ℤ) (j : ℕ) (xs : List ℤ) → ((i : ℕ) → i < length xs → number_at row (j + i) ≡ number_at xs i) → map (coefficient 1 row) (columns_from j (length xs)) ≡ map whole xs
row_columns row j [] h = refl
row_columns row j (x ∷ xs) h =
    λ i. frac ((ap (number_at row) (let q : j ≡ j + 0 = omega arith in q) ∙ h zero (omega arith)) i) 1
    ∷ row_columns row (suc j) xs (λ i m. ap (number_at row) (let q : suc j + i ≡ j + suc i = omega arith in q) ∙ h (suc i) (omega arith)) i

pub row_is : (n m : ℕ) (row : List ℤ) → length row ≡ n → coefficients 1 (columns_from 0 n ++ replicate m InBasis) row ≡ padded m (map whole row)
row_is n m row e =
    ap (λ n. coefficients 1 (columns_from 0 n ++ replicate m InBasis) row) (sym e)
    ∙ map_append (coefficient 1 row) (columns_from 0 (length row)) (replicate m InBasis)
    ∙ (λ i. row_columns row 0 row (λ k l. ap (number_at row) (let q : 0 + k ≡ k = omega arith in q)) i ++ map_replicate (coefficient 1 row) m InBasis i)

rows_columns : (f : Position → List ℤ → List ℚ) (j n : ℕ) (ss : List Position) (ls : List (List ℤ)) → ((k : ℕ) → f (InColumn k) [] ≡ []) → rows_of f (columns_from j n ++ ss) (replicate n [] ++ ls) ≡ replicate n [] ++ rows_of f ss ls
rows_columns f j zero ss ls h = refl
rows_columns f j (suc n) ss ls h = λ i. h j i ∷ rows_columns f (suc j) n ss ls h i

rows_rows : (all : List Position) (n m : ℕ) (rows : List (List ℤ)) → all ≡ columns_from 0 n ++ replicate m InBasis → ((i : ℕ) → i < length rows → length (get_or rows i []) ≡ n)
    → rows_of (row_of_position 1 all) (replicate (length rows) InBasis) rows ≡ map (padded m) (map (map whole) rows)
rows_rows all n m [] e h = refl
rows_rows all n m (row ∷ rows) e h =
    λ i. (ap (λ ss. coefficients 1 ss row) e ∙ row_is n m row (h zero (omega arith))) i ∷ rows_rows all n m rows e (λ j l. h (suc j) (omega arith)) i

pub length_start_numbers : (cs : List ℤ) (ls : List IntegerBounds) → length cs ≤ length ls → length (start_numbers cs ls) ≡ length cs
length_start_numbers [] ls h = refl
length_start_numbers (c ∷ cs) [] h = absurd (omega arith)
length_start_numbers (c ∷ cs) (l ∷ ls) h = ap suc (length_start_numbers cs ls (omega arith))

pub length_columns : (j n : ℕ) → length (columns_from j n) ≡ n
length_columns j zero = refl
length_columns j (suc n) = ap suc (length_columns (suc j) n)

-- ---- where the variables are
pub rows_in_basis : (m v : ℕ) → get_or (replicate m InBasis) v InBasis ≡ InBasis
rows_in_basis zero v = refl
rows_in_basis (suc m) zero = refl
rows_in_basis (suc m) (suc v) = rows_in_basis m v

pub column_number : (j n m v k : ℕ) → get_or (columns_from j n ++ replicate m InBasis) v InBasis ≡ InColumn k → (k ≡ j + v) × (v < n)
column_number j zero m v k h = absurd (let f : InBasis ≡ InColumn k = sym (rows_in_basis m v) ∙ h in cc)
column_number j (suc n) m zero k h = (let f : InColumn j ≡ InColumn k = h in let g : j ≡ k = cc in omega (arith, g), omega arith)
column_number j (suc n) m (suc v) k h = let i = column_number (suc j) n m v k h in (omega (arith, i.0), omega (arith, i.1))

pub position_of_column : (j n v : ℕ) (ss : List Position) → v < n → get_or (columns_from j n ++ ss) v InBasis ≡ InColumn (j + v)
position_of_column j zero v ss l = absurd (omega arith)
position_of_column j (suc n) zero ss l = ap InColumn (omega arith)
position_of_column j (suc n) (suc v) ss l = position_of_column (suc j) n v ss (omega arith) ∙ ap InColumn (omega arith)

-- ---- the view
pub statuses_long : (ss : List Position) (us : List Bool) → length us ≡ length ss → length (statuses_of ss us) ≡ length ss
statuses_long [] us e = refl
statuses_long (s ∷ ss) [] e = absurd (omega arith)
statuses_long (s ∷ ss) (u ∷ us) e = ap suc (statuses_long ss us (omega arith))

module _ (rows : List (List ℤ)) (reduced_costs : List ℤ) (bounds : List IntegerBounds) (values : List ℤ) (rows_long : (i : ℕ) → i < length rows → length (get_or rows i []) ≡ length reduced_costs) where
  abbrev w : IntegerTableau
  w = start_tableau rows reduced_costs bounds values

  abbrev n : ℕ
  n = length reduced_costs

  abbrev m : ℕ
  m = length rows

  statuses_first : statuses_of w.positions w.at_upper ≡ map start_status (map whole reduced_costs) ++ replicate m Basic
  statuses_first = statuses_columns 0 reduced_costs (replicate m InBasis) (replicate m false) ∙ ap (λ ss. map start_status (map whole reduced_costs) ++ ss) (statuses_rows m)

  nonbasic_values_first : map whole w.nonbasic_values ≡ padded m (start_values (map whole reduced_costs) (map fraction_bounds bounds))
  nonbasic_values_first = map_append whole (start_numbers reduced_costs bounds) (replicate m (pos 0)) ∙ (λ i. nonbasic_values_are reduced_costs bounds i ++ map_replicate whole m (pos 0) i)

  rows_first : rows_of (row_of_position 1 w.positions) w.positions w.rows ≡ replicate n [] ++ map (padded m) (map (map whole) rows)
  rows_first = rows_columns (row_of_position 1 w.positions) 0 n (replicate m InBasis) rows (λ k. refl) ∙ ap (λ ls. replicate n [] ++ ls) (rows_rows w.positions n m rows refl rows_long)

  reduced_costs_first : coefficients 1 w.positions reduced_costs ≡ padded m (map whole reduced_costs)
  reduced_costs_first = row_is n m reduced_costs refl

  -- ---- sizes of the lists
  pub positions_many : length w.positions ≡ n + m
  positions_many = length-append (columns_from 0 n) (replicate m InBasis) ∙ (λ i. length_columns 0 n i + length-replicate m InBasis i)

  at_upper_many : length w.at_upper ≡ n + m
  at_upper_many = length-append (map is_negative reduced_costs) (replicate m false) ∙ (λ i. length-map reduced_costs is_negative i + length-replicate m false i)

  pub nonbasic_values_many : length bounds ≡ n + m → length w.nonbasic_values ≡ n + m
  nonbasic_values_many h = length-append (start_numbers reduced_costs bounds) (replicate m (pos 0)) ∙ (λ i. length_start_numbers reduced_costs bounds (omega (arith, h)) i + length-replicate m (pos 0) i)

  pub rows_many : length w.rows ≡ n + m
  rows_many = length-append (replicate n []) rows ∙ ap (λ k. k + m) (length-replicate n [])

  -- ---- widths
  length_at : (width j n : ℕ) (ls : List (List ℤ)) → ((i : ℕ) → i < length ls → length (get_or ls i []) ≡ width) → (v : ℕ) → v < n + length ls
      → length (get_or (replicate n [] ++ ls) v []) ≡ row_width width (get_or (columns_from j n ++ replicate (length ls) InBasis) v InBasis)
  length_at width j zero ls h v l = h v (omega arith) ∙ ap (row_width width) (sym (rows_in_basis (length ls) v))
  length_at width j (suc n) ls h zero l = refl
  length_at width j (suc n) ls h (suc v) l = length_at width (suc j) n ls h v (omega arith)

  module _ (bounds_many : length bounds ≡ n + m) (values_many : length values ≡ n + m)
      (exact : (v : ℕ) → v < length w.positions → get_or w.positions v InBasis ≡ InBasis → number_at values v ≡ sum_over w.positions (get_or w.rows v []) w.nonbasic_values) where
    pub start_consistent : ((v : ℕ) → IsWithin (size_limit - 1) (get_or w.rows v [])) → IsWithin (size_limit - 1) reduced_costs → total_size w.nonbasic_values < size_limit → IsConsistent w
    start_consistent small costs_small total_small = record {
      positive = omega arith;
      bounds = bounds_many ∙ sym positions_many;
      at_upper = at_upper_many ∙ sym positions_many;
      nonbasic_values = nonbasic_values_many bounds_many ∙ sym positions_many;
      rows = rows_many ∙ sym positions_many;
      values = values_many ∙ sym positions_many;
      alone = λ v k h u g. omega (arith, (column_number 0 n m v k h).0, (column_number 0 n m u k g).0);
      within = λ v k h. omega (arith, (column_number 0 n m v k h).0, (column_number 0 n m v k h).1);
      widths = λ v l. length_at n 0 n rows rows_long v (omega (arith, l, positions_many));
      exact = exact;
      fits = λ v l q. value_fits (get_or w.rows v []) w.positions w.nonbasic_values (number_at values v) (small v) total_small (exact v l q);
      small = total_small;
      denominator_small = omega arith;
      rows_within = small;
      costs_within = costs_small;
    }

    module _ (numbers : List ℕ) (small : (v : ℕ) → IsWithin (size_limit - 1) (get_or w.rows v [])) (total_small : total_size w.nonbasic_values < size_limit) where
      values_first : computed_values (map whole w.nonbasic_values) (statuses_of w.positions w.at_upper) (map whole w.nonbasic_values) (rows_of (row_of_position 1 w.positions) w.positions w.rows) ≡ Some (values_of 1 w.positions w.nonbasic_values values)
      values_first = computed_each (map whole w.nonbasic_values) 1 w.positions w.positions w.at_upper w.nonbasic_values w.rows values
          (at_upper_many ∙ sym positions_many) (nonbasic_values_many bounds_many ∙ sym positions_many) (rows_many ∙ sym positions_many) (values_many ∙ sym positions_many)
          (λ v l q. value_is 1 (size_limit - 1) (get_or w.rows v []) w.positions w.nonbasic_values (omega arith) (omega arith) (small v) (omega (arith, total_small))
          ∙ ap (λ z. Some (frac z 1)) (sym (exact v l q)))

      abbrev blank : Tableau
      blank = record (tableau_of n numbers w) { values = replicate (n + m) (whole (pos 0)) }

      slack_basis_is : blank ≡ slack_basis (fraction_program rows reduced_costs bounds numbers)
      slack_basis_is = λ i. record {
        columns = sym (length-map reduced_costs whole) i;
        numbers = numbers;
        bounds = map fraction_bounds bounds;
        statuses = (statuses_first ∙ ap (λ k. map start_status (map whole reduced_costs) ++ replicate k Basic) (sym (length-map rows (map whole)))) i;
        nonbasic_values = (nonbasic_values_first ∙ ap (λ k. padded k (start_values (map whole reduced_costs) (map fraction_bounds bounds))) (sym (length-map rows (map whole)))) i;
        rows = (rows_first ∙ (λ t. replicate (sym (length-map reduced_costs whole) t) [] ++ map (padded (sym (length-map rows (map whole)) t)) (map (map whole) rows))) i;
        reduced_costs = (reduced_costs_first ∙ ap (λ k. padded k (map whole reduced_costs)) (sym (length-map rows (map whole)))) i;
        values = replicate (sym (length-map reduced_costs whole) i + sym (length-map rows (map whole)) i) (whole (pos 0));
        pivots = 0;
      }

      valued : Tableau → Option Tableau
      valued t = option_map (λ values. record t { values = values }) (computed_values t.nonbasic_values t.statuses t.nonbasic_values t.rows)

      pub start_tableau_is : started (fraction_program rows reduced_costs bounds numbers) ≡ Some (tableau_of n numbers w)
      unfolding valued
      start_tableau_is = sym (ap valued slack_basis_is) ∙ ap (option_map (λ values. record blank { values = values })) values_first
