-- What a tableau answers, from what the code's parts say.
use Rattle.std.proofs.Common.{◌≡◌, ℕ, zero, suc, ◌+◌, ◌<◌, ◌≤◌, arith, refl, ap, sym, ◌∙◌, List, [], ◌∷◌, ◌++◌, length, get_or, set, take, drop, drop-cons, append_assoc, inl, inr}
use Rattle.std.specs.Prelude.{ℤ, pos, negsuc, map, if◌then◌else◌}
use Rattle.std.proofs.lemmas.List.{drop-map, drop-set-lt, drop-set-add, get_or-map, get_or_default, length-drop, length-map, set_past}
use Rattle.fraction.specs.Rational.{ℚ, whole, neg_ℚ}
use Rattle.integer_tableau.proofs.AllRows.{get_or-rows_of}
use Rattle.integer_tableau.proofs.ExactPivots.{get_or-values}
use Rattle.integer_tableau.proofs.Expanded.{row_of_column, row_of_row}
use Rattle.std.proofs.lemmas.Bool.{cases_lt}
use Rattle.integer_tableau.specs.Combined.{IsCompact, combined_row, expanded, expanded_rows, expanded_values, row_if_basic}
use Rattle.integer_tableau.specs.Consistent.{IsConsistent}
use Rattle.integer_tableau.specs.IntegerTableau.{IntegerTableau, fraction_bounds, row_of_position, tableau_of, value, values_of}
use Rattle.integer_tableau.specs.Numbers.{number_at}
use Rattle.integer_tableau.specs.Positions.{coefficient, coefficients}
use Rattle.integer_tableau.specs.declared.integer_bounds.IntegerBounds.{IntegerBounds}
use Rattle.integer_tableau.specs.declared.position.Position.{Position}
use Rattle.integer_tableau.specs.declared.position.Position.TheVariants.{InBasis, InColumn}
use Rattle.tableau.specs.Leaving.{is_below, unbounded}
use Rattle.tableau.specs.Multipliers.{direction_of, point_of, row_multipliers}
use Rattle.tableau.specs.Tableau.{Tableau, bounds_of, row_of, value_of}
use Rattle.tableau.specs.declared.bounds.Direction.{Direction}
use Rattle.tableau.specs.declared.bounds.Direction.TheVariants.{Rise, Fall}

-- ---- loops
-- one value more
pub values_more : (d : ℕ) (all : List ℚ) (ss : List Position) (xs vs : List ℤ) (j : ℕ) (total : List ℚ) → j < length ss → j < length xs → j < length vs
    → all ++ values_of d (drop j ss) (drop j xs) (drop j vs) ≡ total
    → (all ++ (value d (get_or ss j InBasis) (number_at xs j) (number_at vs j) ∷ [])) ++ values_of d (drop (j + 1) ss) (drop (j + 1) xs) (drop (j + 1) vs) ≡ total
values_more d all ss xs vs j total l m n h =
    append_assoc all (value d (get_or ss j InBasis) (number_at xs j) (number_at vs j) ∷ []) (values_of d (drop (j + 1) ss) (drop (j + 1) xs) (drop (j + 1) vs))
    ∙ ap (λ k. all ++ (value d (get_or ss j InBasis) (number_at xs j) (number_at vs j) ∷ values_of d (drop k ss) (drop k xs) (drop k vs))) (let e : j + 1 ≡ suc j = omega arith in e)
    ∙ sym (λ i. all ++ values_of d (drop-cons ss j InBasis l i) (drop-cons xs j (pos 0) m i) (drop-cons vs j (pos 0) n i))
    ∙ h

pub values_done : (d : ℕ) (all : List ℚ) (ss : List Position) (xs vs : List ℤ) (j : ℕ) (total : List ℚ) → length vs ≤ j → all ++ values_of d (drop j ss) (drop j xs) (drop j vs) ≡ total → all ≡ total
values_done d all ss xs vs j total l h = sym (none_left (drop j ss) (drop j xs) (drop j vs) (omega (arith, l, length-drop j vs))) ∙ h
  where
    nil : (xs : List ℚ) → xs ++ [] ≡ xs
    nil [] = refl
    nil (x ∷ xs) = ap (λ ys. x ∷ ys) (nil xs)

    none_left : (ss : List Position) (xs vs : List ℤ) → length vs ≡ 0 → all ++ values_of d ss xs vs ≡ all
    none_left [] xs vs e = nil all
    none_left (s ∷ ss) [] vs e = nil all
    none_left (s ∷ ss) (x ∷ xs) [] e = nil all
    none_left (s ∷ ss) (x ∷ xs) (v ∷ vs) e = absurd (omega arith)

-- one coefficient more
pub coefficients_more : (d : ℕ) (all : List ℚ) (ss : List Position) (row : List ℤ) (j : ℕ) (total : List ℚ) → j < length ss
    → all ++ coefficients d (drop j ss) row ≡ total → (all ++ (coefficient d row (get_or ss j InBasis) ∷ [])) ++ coefficients d (drop (j + 1) ss) row ≡ total
coefficients_more d all ss row j total l h =
    append_assoc all (coefficient d row (get_or ss j InBasis) ∷ []) (coefficients d (drop (j + 1) ss) row)
    ∙ ap (λ k. all ++ (coefficient d row (get_or ss j InBasis) ∷ coefficients d (drop k ss) row)) (let e : j + 1 ≡ suc j = omega arith in e)
    ∙ sym (ap (λ ys. all ++ coefficients d ys row) (drop-cons ss j InBasis l)) ∙ h

pub coefficients_done : (d : ℕ) (all : List ℚ) (ss : List Position) (row : List ℤ) (j : ℕ) (total : List ℚ) → length ss ≤ j → all ++ coefficients d (drop j ss) row ≡ total → all ≡ total
coefficients_done d all ss row j total l h = sym (none_left (drop j ss) (omega (arith, l, length-drop j ss))) ∙ h
  where
    nil : (xs : List ℚ) → xs ++ [] ≡ xs
    nil [] = refl
    nil (x ∷ xs) = ap (λ ys. x ∷ ys) (nil xs)

    none_left : (ss : List Position) → length ss ≡ 0 → all ++ coefficients d ss row ≡ all
    none_left [] e = nil all
    none_left (s ∷ ss) e = absurd (omega arith)

-- ---- the columns' values
pub take_values : (d : ℕ) (ss : List Position) (xs vs ws : List ℤ) → length vs ≤ length ss → length vs ≤ length xs → take (length vs) (values_of d ss xs (vs ++ ws)) ≡ values_of d ss xs vs
take_values d [] xs [] ws l m = refl
take_values d [] xs (v ∷ vs) ws l m = absurd (omega arith)
take_values d (s ∷ ss) [] [] ws l m = refl
take_values d (s ∷ ss) [] (v ∷ vs) ws l m = absurd (omega arith)
take_values d (s ∷ ss) (x ∷ xs) [] ws l m = refl
take_values d (s ∷ ss) (x ∷ xs) (v ∷ vs) ws l m = ap (λ ys. value d s x v ∷ ys) (take_values d ss xs vs ws (omega arith) (omega arith))

-- ---- multipliers of rows alone
pub drop_multipliers : (n place : ℕ) (w : Direction) (xs : List ℚ) → drop n (row_multipliers w (n + place) xs) ≡ row_multipliers w place (drop n xs)
drop_multipliers n place Rise xs = drop-set-add n (map neg_ℚ xs) place (whole (pos 1)) ∙ ap (λ ys. set ys place (whole (pos 1))) (drop-map neg_ℚ n xs)
drop_multipliers n place Fall xs = drop-set-add n xs place (whole (negsuc 0))

pub drop_multipliers_before : (n place r : ℕ) (w : Direction) (xs : List ℚ) → r < n → length (drop n xs) ≤ place → drop n (row_multipliers w r xs) ≡ row_multipliers w place (drop n xs)
drop_multipliers_before n place r Rise xs l h =
    drop-set-lt n (map neg_ℚ xs) r (whole (pos 1)) l ∙ drop-map neg_ℚ n xs ∙ sym (set_past (map neg_ℚ (drop n xs)) place (whole (pos 1)) (omega (arith, h, length-map (drop n xs) neg_ℚ)))
drop_multipliers_before n place r Fall xs l h = drop-set-lt n xs r (whole (negsuc 0)) l ∙ sym (set_past (drop n xs) place (whole (negsuc 0)) h)

drop_nothing : (n : ℕ) → drop {A = ℚ} n [] ≡ []
drop_nothing zero = refl
drop_nothing (suc n) = refl

-- ---- of a variable of the whole tableau
module _ (columns : ℕ) (numbers : List ℕ) (ps : List (List ℤ)) (weight reach : ℕ) (w : IntegerTableau) (t : Tableau) (compact : IsCompact ps weight reach w)
    (view : tableau_of columns numbers (expanded ps w) ≡ t) (columns_are : columns ≡ length w.rows) where
  cons : IsConsistent (expanded ps w)
  cons = compact.consistent

  pub point_is : values_of w.denominator w.positions w.nonbasic_values w.values ≡ point_of t
  point_is =
      sym (ap (λ n. take n (values_of w.denominator w.positions w.nonbasic_values (expanded_values w.denominator ps w.positions w.nonbasic_values w.values))) (columns_are ∙ sym compact.values)
      ∙ take_values w.denominator w.positions w.nonbasic_values w.values _ (omega (arith, compact.values, compact.variables)) (omega (arith, compact.values, compact.variables, cons.nonbasic_values)))
      ∙ ap point_of view

  pub costs_are : coefficients w.denominator (drop (length w.rows) w.positions) w.reduced_costs ≡ drop t.columns t.reduced_costs
  costs_are =
      sym (drop-map (coefficient w.denominator w.reduced_costs) (length w.rows) w.positions)
      ∙ ap (λ n. drop n (coefficients w.denominator w.positions w.reduced_costs)) (sym columns_are)
      ∙ ap (λ (t : Tableau). drop t.columns t.reduced_costs) view

  module _ (r : ℕ) (there : r < length w.positions) where
    row_is : row_of_position w.denominator w.positions (get_or w.positions r InBasis) (get_or (expanded_rows w.denominator ps w.positions w.rows) r []) ≡ row_of t r
    row_is = sym (get_or-rows_of (row_of_position w.denominator w.positions) w.positions (expanded_rows w.denominator ps w.positions w.rows) r cons.rows there) ∙ ap (λ t. row_of t r) view

    pub value_at : value w.denominator (get_or w.positions r InBasis) (number_at w.nonbasic_values r) (number_at (expanded_values w.denominator ps w.positions w.nonbasic_values w.values) r) ≡ value_of t r
    value_at = sym (get_or-values w.denominator w.positions w.nonbasic_values (expanded_values w.denominator ps w.positions w.nonbasic_values w.values) r cons.nonbasic_values cons.values there) ∙ ap (λ t. value_of t r) view

    bounds_at : get_or (map fraction_bounds w.bounds) r unbounded ≡ bounds_of t r
    bounds_at = ap (λ t. bounds_of t r) view

    pub direction_is : (b : IntegerBounds) (p : Position) (d : ℕ) (x v : ℤ) → b ≡ get_or w.bounds r b → p ≡ get_or w.positions r p → d ≡ w.denominator → x ≡ get_or w.nonbasic_values r x
        → v ≡ number_at (expanded_values w.denominator ps w.positions w.nonbasic_values w.values) r
        → (if is_below (value d p x v) (fraction_bounds b).lower then Rise else Fall) ≡ direction_of t r
    direction_is b p d x v eb ep ed ex ev = λ i. if is_below ((value_is ∙ value_at) i) (bounds_is i).lower then Rise else Fall
      where
        bounds_is : fraction_bounds b ≡ bounds_of t r
        bounds_is = ap fraction_bounds eb ∙ sym (get_or-map fraction_bounds w.bounds r b unbounded (omega (arith, there, cons.bounds))) ∙ bounds_at

        value_is : value d p x v ≡ value w.denominator (get_or w.positions r InBasis) (number_at w.nonbasic_values r) (number_at (expanded_values w.denominator ps w.positions w.nonbasic_values w.values) r)
        value_is = λ i. value (ed i) ((ep ∙ get_or_default w.positions r p InBasis there) i) ((ex ∙ get_or_default w.nonbasic_values r x (pos 0) (omega (arith, there, cons.nonbasic_values))) i) (ev i)

    -- the coefficients of the variables from `first` on
    pub none_are : (first k : ℕ) → get_or w.positions r InBasis ≡ InColumn k → [] ≡ drop first (row_of t r)
    none_are first k q = sym (drop_nothing first) ∙ ap (drop first) (ap (λ s. row_of_position w.denominator w.positions s (get_or (expanded_rows w.denominator ps w.positions w.rows) r [])) (sym q) ∙ row_is)

    basic_are : (first : ℕ) (row : List ℤ) → get_or w.positions r InBasis ≡ InBasis → row ≡ get_or (expanded_rows w.denominator ps w.positions w.rows) r []
        → coefficients w.denominator (drop first w.positions) row ≡ drop first (row_of t r)
    basic_are first row q e =
        sym (drop-map (coefficient w.denominator row) first w.positions)
        ∙ ap (λ row. drop first (coefficients w.denominator w.positions row)) e
        ∙ ap (drop first) (ap (λ s. row_of_position w.denominator w.positions s (get_or (expanded_rows w.denominator ps w.positions w.rows) r [])) (sym q) ∙ row_is)

    pub column_are : (first : ℕ) (row : List ℤ) → get_or w.positions r InBasis ≡ InBasis → r < length w.rows → row ≡ get_or w.rows r []
        → coefficients w.denominator (drop first w.positions) row ≡ drop first (row_of t r)
    column_are first row q l e = basic_are first row q (e ∙ sym (row_of_column w.denominator ps w.positions w.rows r l))

    pub combined_are : (first : ℕ) (a : List ℤ) (i : ℕ) → get_or w.positions r InBasis ≡ InBasis → r ≡ length w.rows + i → i < length ps → a ≡ get_or ps i []
        → coefficients w.denominator (drop first w.positions) (combined_row w.denominator w.positions w.rows a) ≡ drop first (row_of t r)
    combined_are first a i q e l f = basic_are first (combined_row w.denominator w.positions w.rows a) q
        (sym (ap (λ r. get_or (expanded_rows w.denominator ps w.positions w.rows) r []) e ∙ row_of_row w.denominator ps w.positions w.rows compact.variables i l
        ∙ ap (λ s. row_if_basic s (combined_row w.denominator w.positions w.rows (get_or ps i []))) (ap (λ r. get_or w.positions r InBasis) (sym e) ∙ q)
        ∙ ap (combined_row w.denominator w.positions w.rows) (sym f)))

    -- of which there are no more than variables
    pub row_short : length (row_of t r) ≤ length w.positions
    row_short = by_position (get_or w.positions r InBasis) row_is
      where
        by_position : (s : Position) → row_of_position w.denominator w.positions s (get_or (expanded_rows w.denominator ps w.positions w.rows) r []) ≡ row_of t r → length (row_of t r) ≤ length w.positions
        by_position InBasis e = omega (arith, ap length e, length-map w.positions (coefficient w.denominator (get_or (expanded_rows w.denominator ps w.positions w.rows) r [])))
        by_position (InColumn k) e = omega (arith, ap length e)

    -- their multipliers
    pub multipliers_are : (direction : Direction) (place : ℕ) (xs : List ℚ) → direction ≡ direction_of t r → xs ≡ drop (length w.rows) (row_of t r)
        → (r < length w.rows → length ps ≤ place) → (length w.rows ≤ r → r ≡ length w.rows + place)
        → row_multipliers direction place xs ≡ drop t.columns (row_multipliers (direction_of t r) r (row_of t r))
    multipliers_are direction place xs e f' before behind =
        (λ i. row_multipliers (e i) place (f i)) ∙ sym (elim (cases_lt r (length w.rows)) [
          | inl h ↦ drop_multipliers_before t.columns place r (direction_of t r) (row_of t r) (omega (arith, h, here)) (omega (arith, l, before h, ap length f))
          | inr h ↦ ap (λ r'. drop t.columns (row_multipliers (direction_of t r) r' (row_of t r))) (behind h ∙ ap (λ n. n + place) (sym here)) ∙ drop_multipliers t.columns place (direction_of t r) (row_of t r)
        ])
      where
        here : t.columns ≡ length w.rows
        here = sym (ap (λ (t : Tableau). t.columns) view) ∙ columns_are

        l : length xs ≤ length ps
        l = omega (arith, ap length f', length-drop (length w.rows) (row_of t r), row_short, compact.variables)

        f : xs ≡ drop t.columns (row_of t r)
        f = f' ∙ ap (λ n. drop n (row_of t r)) (sym here)
