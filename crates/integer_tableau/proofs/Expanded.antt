-- All variables of a tableau that keeps rows and values of columns, variable by variable.
use Rattle.std.proofs.Common.{◌≡◌, ℕ, zero, suc, ◌+◌, ◌-◌, ◌*◌, ◌^◌, ◌≤◌, ◌<◌, arith, refl, ap, sym, ◌∙◌, subst, List, [], ◌∷◌, length, get_or, drop, inl, inr, ◌⊎◌}
use Rattle.std.specs.Prelude.{ℤ, pos, map, nat_abs, None}
use Rattle.std.proofs.Math.Nat.{mul-le-mul_right}
use Rattle.std.proofs.lemmas.Bool.{cases_lt}
use Rattle.std.proofs.lemmas.List.{get_or-append-add, get_or-drop, get_or-map, get_or_append_left, get_or_default, get_or_past, length-append, length-drop, length-map}
use Rattle.integer_tableau.proofs.Combining.{combined_row_at}
use Rattle.integer_tableau.proofs.CombinedValues.{combined_sum, one_there, sum_of, sum_of_row, sum_of_same}
use Rattle.integer_tableau.specs.Combined.{IsCompact, bound_size, combined, combined_row, combined_value, expanded, expanded_rows, expanded_values, numerator_of, row_if_basic, rows_behind, total_bound_size, value_numerator}
use Rattle.integer_tableau.specs.Consistent.{IsConsistent, row_width}
use Rattle.integer_tableau.specs.IntegerTableau.{IntegerTableau}
use Rattle.integer_tableau.specs.Numbers.{IsWithin, number_at, total_size}
use Rattle.integer_tableau.specs.Range.{size_limit}
use Rattle.integer_tableau.specs.Positions.{IsColumnOf, sum_over}
use Rattle.integer_tableau.specs.declared.integer_bounds.IntegerBounds.{IntegerBounds}
use Rattle.integer_tableau.specs.declared.position.Position.{Position}
use Rattle.integer_tableau.specs.declared.position.Position.TheVariants.{InBasis, InColumn}

-- ---- rows
get_or-rows_behind : (f : List ℤ → List ℤ) (ss : List Position) (ps : List (List ℤ)) (i : ℕ) → length ss ≡ length ps → i < length ps
    → get_or (rows_behind f ss ps) i [] ≡ row_if_basic (get_or ss i InBasis) (f (get_or ps i []))
get_or-rows_behind f [] ps i e l = absurd (omega arith)
get_or-rows_behind f (s ∷ ss) [] i e l = absurd (omega arith)
get_or-rows_behind f (s ∷ ss) (p ∷ ps) zero e l = refl
get_or-rows_behind f (s ∷ ss) (p ∷ ps) (suc i) e l = get_or-rows_behind f ss ps i (omega arith) (omega arith)

length-rows_behind : (f : List ℤ → List ℤ) (ss : List Position) (ps : List (List ℤ)) → length ss ≡ length ps → length (rows_behind f ss ps) ≡ length ps
length-rows_behind f [] [] e = refl
length-rows_behind f [] (p ∷ ps) e = absurd (omega arith)
length-rows_behind f (s ∷ ss) [] e = absurd (omega arith)
length-rows_behind f (s ∷ ss) (p ∷ ps) e = ap suc (length-rows_behind f ss ps (omega arith))

module _ (d : ℕ) (ps : List (List ℤ)) (ss : List Position) (rows : List (List ℤ)) where
  pub row_of_column : (v : ℕ) → v < length rows → get_or (expanded_rows d ps ss rows) v [] ≡ get_or rows v []
  row_of_column v l = get_or_append_left rows (rows_behind (combined_row d ss rows) (drop (length rows) ss) ps) [] v l

  -- the row of a variable that was taken out of those of the columns, or was made before
  pub row_taken : (v : ℕ) (made row : List ℤ) → (v < length rows → row ≡ get_or rows v []) → (length rows ≤ v → row ≡ made) → (length rows ≤ v → made ≡ get_or (expanded_rows d ps ss rows) v [])
      → row ≡ get_or (expanded_rows d ps ss rows) v []
  row_taken v made row kept stays is = elim (cases_lt v (length rows)) [
    | inl l ↦ kept l ∙ sym (row_of_column v l)
    | inr l ↦ stays l ∙ is l
  ]

  module _ (many : length ss ≡ length rows + length ps) where
    behind_many : length (drop (length rows) ss) ≡ length ps
    behind_many = omega (arith, many, length-drop (length rows) ss)

    pub row_of_row : (i : ℕ) → i < length ps → get_or (expanded_rows d ps ss rows) (length rows + i) [] ≡ row_if_basic (get_or ss (length rows + i) InBasis) (combined_row d ss rows (get_or ps i []))
    row_of_row i l =
        get_or-append-add rows (rows_behind (combined_row d ss rows) (drop (length rows) ss) ps) i []
        ∙ get_or-rows_behind (combined_row d ss rows) (drop (length rows) ss) ps i behind_many l
        ∙ ap (λ s. row_if_basic s (combined_row d ss rows (get_or ps i []))) (get_or-drop (length rows) ss i InBasis)

    pub rows_many : length (expanded_rows d ps ss rows) ≡ length rows + length ps
    rows_many = length-append rows (rows_behind (combined_row d ss rows) (drop (length rows) ss) ps) ∙ ap (λ n. length rows + n) (length-rows_behind (combined_row d ss rows) (drop (length rows) ss) ps behind_many)

    -- the row of a row's variable that is basic
    pub row_made : (v : ℕ) (a row : List ℤ) → length rows ≤ v → v < length ss → get_or ss v InBasis ≡ InBasis → a ≡ get_or ps (v - length rows) a → row ≡ combined_row d ss rows a
        → row ≡ get_or (expanded_rows d ps ss rows) v []
    row_made v a row m l q e f =
        let is : v ≡ length rows + (v - length rows) = omega arith in
        let there : v - length rows < length ps = omega (arith, many) in
        f ∙ ap (combined_row d ss rows) (e ∙ get_or_default ps (v - length rows) a [] there)
        ∙ sym (ap (λ v. get_or (expanded_rows d ps ss rows) v []) is ∙ row_of_row (v - length rows) there
        ∙ ap (λ s. row_if_basic s (combined_row d ss rows (get_or ps (v - length rows) []))) (ap (λ v. get_or ss v InBasis) (sym is) ∙ q))

-- ---- values
module _ (d : ℕ) (ps : List (List ℤ)) (ss : List Position) (xs vs : List ℤ) where
  pub value_of_column : (v : ℕ) → v < length vs → number_at (expanded_values d ps ss xs vs) v ≡ number_at vs v
  value_of_column v l = get_or_append_left vs (map (λ a. combined_value (pos d) a ss xs vs) ps) (pos 0) v l

  pub value_of_row : (i : ℕ) → i < length ps → number_at (expanded_values d ps ss xs vs) (length vs + i) ≡ combined_value (pos d) (get_or ps i []) ss xs vs
  value_of_row i l = get_or-append-add vs (map (λ a. combined_value (pos d) a ss xs vs) ps) i (pos 0) ∙ get_or-map (λ a. combined_value (pos d) a ss xs vs) ps i [] (pos 0) l

  pub values_many : length (expanded_values d ps ss xs vs) ≡ length vs + length ps
  values_many = length-append vs (map (λ a. combined_value (pos d) a ss xs vs) ps) ∙ ap (λ n. length vs + n) (length-map ps (λ a. combined_value (pos d) a ss xs vs))

-- a variable is a column or that of a row
pub which : (n m v : ℕ) → v < n + m → (v < n) ⊎ ((i : ℕ) × (i < m) × (v ≡ n + i))
which n m v l = elim (cases_lt v n) [
  | inl h ↦ inl h
  | inr h ↦ inr (v - n, omega arith, omega arith)
]

pub add_apart : (n i j : ℕ) → n + i ≡ n + j → i ≡ j
add_apart n i j e = omega arith

-- ---- the value of a row's variable is the sum over its row
module _ (d : ℕ) (ss : List Position) (rows : List (List ℤ)) (xs vs : List ℤ) (many : length rows ≤ length ss) (xs_many : length xs ≡ length ss) (vs_many : length vs ≡ length rows)
    (alone : (v k : ℕ) → get_or ss v InBasis ≡ InColumn k → IsColumnOf ss v k) (within : (v k : ℕ) → get_or ss v InBasis ≡ InColumn k → k < length rows)
    (widths : (j : ℕ) → j < length rows → length (get_or rows j []) ≡ row_width (length rows) (get_or ss j InBasis))
    (exact : (j : ℕ) → j < length rows → get_or ss j InBasis ≡ InBasis → number_at vs j ≡ sum_over ss (get_or rows j []) xs) where
  narrow_at : (s : Position) (row : List ℤ) → length row ≡ row_width (length rows) s → length row ≤ length rows
  narrow_at InBasis row e = omega arith
  narrow_at (InColumn k) row e = omega arith

  pub narrow : (j : ℕ) → length (get_or rows j []) ≤ length rows
  narrow j = elim (cases_lt j (length rows)) [
    | inl l ↦ narrow_at (get_or ss j InBasis) (get_or rows j []) (widths j l)
    | inr l ↦ subst (λ (row : List ℤ). length row ≤ length rows) (sym (get_or_past rows j [] l)) (omega arith)
  ]

  column_sum : (j : ℕ) → j < length rows → (s : Position) → get_or ss j InBasis ≡ s → sum_of (numerator_of d (get_or rows j []) s) ss xs ≡ value_numerator (pos d) s (number_at xs j) (number_at vs j)
  column_sum j l InBasis e = sum_of_row (get_or rows j []) ss xs ∙ sym (exact j l e)
  column_sum j l (InColumn k) e = one_there d k (get_or rows j []) j ss xs xs_many (omega (arith, l, many)) e (alone j k e)

  pub row_value : (a : List ℤ) → length a ≡ length rows → combined_value (pos d) a ss xs vs ≡ sum_over ss (combined_row d ss rows a) xs
  row_value a e =
      sym (combined_sum d ss xs a ss xs rows vs (omega arith) (omega (arith, xs_many, many)) (sym e) (vs_many ∙ sym e) (λ j l. column_sum j (omega (arith, l, e)) (get_or ss j InBasis) refl))
      ∙ sym (sum_of_same (number_at (combined_row d ss rows a)) (combined d a ss rows) (combined_row_at d a ss rows narrow within) ss xs)
      ∙ sum_of_row (combined_row d ss rows a) ss xs

-- ---- sizes of nonbasic values
pub bounded_total : (bs : List IntegerBounds) (xs : List ℤ) → length xs ≡ length bs
    → ((v : ℕ) → v < length bs → nat_abs (number_at xs v) ≤ bound_size (get_or bs v (record { lower = None; upper = None }))) → total_size xs ≤ total_bound_size bs
bounded_total [] [] e h = omega arith
bounded_total [] (x ∷ xs) e h = absurd (omega arith)
bounded_total (b ∷ bs) [] e h = absurd (omega arith)
bounded_total (b ∷ bs) (x ∷ xs) e h = omega (arith, h zero (omega arith), bounded_total bs xs (omega arith) (λ v l. h (suc v) (omega arith)))

-- ---- what holds of all variables, of the columns
module _ (ps : List (List ℤ)) (weight reach : ℕ) (w : IntegerTableau) (compact : IsCompact ps weight reach w) where
  abbrev full : IntegerTableau
  full = expanded ps w

  cons : IsConsistent full
  cons = compact.consistent

  pub column_widths : (j : ℕ) → j < length w.rows → length (get_or w.rows j []) ≡ row_width (length w.rows) (get_or w.positions j InBasis)
  column_widths j l =
      ap length (sym (row_of_column w.denominator ps w.positions w.rows j l)) ∙ cons.widths j (omega (arith, l, compact.variables))
      ∙ ap (λ n. row_width n (get_or w.positions j InBasis)) compact.costs

  pub column_within : (v k : ℕ) → get_or w.positions v InBasis ≡ InColumn k → k < length w.rows
  column_within v k q = omega (arith, cons.within v k q, compact.costs)

  pub nonbasic_there : length w.nonbasic_values ≡ length w.positions
  nonbasic_there = cons.nonbasic_values

  pub full_rows : (i : ℕ) → i < length ps → length (get_or ps i []) ≡ length w.values
  full_rows i l = compact.full i l ∙ sym compact.values

  pub near_values : (j : ℕ) → j < length w.rows → nat_abs (number_at w.nonbasic_values j) * w.denominator < 2 ^ 63
  near_values j l = below (nat_abs (number_at w.nonbasic_values j)) reach w.denominator
      (omega (arith, compact.bounded j (omega (arith, l, compact.variables)), compact.reached j l)) compact.near
    where
      below : (x r d : ℕ) → x ≤ r → r * d < 2 ^ 63 → x * d < 2 ^ 63
      below x r d h k = omega (arith, k, mul-le-mul_right d h)

  pub column_rows_within : (j : ℕ) → IsWithin (size_limit - 1) (get_or w.rows j [])
  column_rows_within j = elim (cases_lt j (length w.rows)) [
    | inl l ↦ subst (IsWithin (size_limit - 1)) (row_of_column w.denominator ps w.positions w.rows j l) (cons.rows_within j)
    | inr l ↦ subst (IsWithin (size_limit - 1)) (sym (get_or_past w.rows j [] l)) (λ k. omega arith)
  ]

  pub column_exact : (j : ℕ) → j < length w.rows → get_or w.positions j InBasis ≡ InBasis → number_at w.values j ≡ sum_over w.positions (get_or w.rows j []) w.nonbasic_values
  column_exact j l q =
      sym (value_of_column w.denominator ps w.positions w.nonbasic_values w.values j (omega (arith, l, compact.values)))
      ∙ cons.exact j (omega (arith, l, compact.variables)) q
      ∙ ap (λ row. sum_over w.positions row w.nonbasic_values) (row_of_column w.denominator ps w.positions w.rows j l)
