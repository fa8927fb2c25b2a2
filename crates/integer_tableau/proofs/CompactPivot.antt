-- A pivot on a tableau that keeps rows and values of columns: for all variables it is a pivot too.
use Rattle.std.proofs.Common.{◌≡◌, ◌≢◌, ℕ, ◌+◌, ◌-◌, ◌*◌, ◌^◌, ◌≤◌, ◌<◌, arith, refl, ap, sym, ◌∙◌, subst, false, Some, None, List, [], length, get_or, set, inl, inr, get_or-set_other, get_or-set_same}
use Rattle.std.specs.Prelude.{ℤ, pos, nat_abs, nat_eq, ◌-ℤ◌, ◌*ℤ◌, ◌+ℤ◌, map, if◌then◌else◌}
use Rattle.std.proofs.lemmas.Bool.{cases_eq, cases_lt}
use Rattle.std.proofs.lemmas.List.{length-set, same_lists, get_or_default, get_or_past, get_or-map}
use Rattle.fraction.specs.Lemmas.Integers.{cancel_ℤ}
use Rattle.fraction.specs.Rational.{frac, whole}
use Rattle.integer_tableau.proofs.BoundedValues.{exchanged_bounded, exchanged_total}
use Rattle.integer_tableau.proofs.Combining.{IsStepOf, combined_row_at, combined_step, entering_step, kept_step, leaving_step, length-numbers_from, set_is_but, unit_step}
use Rattle.integer_tableau.proofs.Expanded.{column_widths, column_within, row_of_column, row_of_row, row_value, rows_many, value_of_column, value_of_row, values_many, which}
use Rattle.integer_tableau.proofs.Keeping.{AreEliminated, alone_after, entering_exact, other_exact, pivot_consistent as full_pivot_consistent, pivot_is as full_pivot_is}
use Rattle.integer_tableau.specs.Combined.{IsCompact, bound_size, combined, combined_row, expanded, expanded_rows, expanded_values, numerator_of, row_if_basic}
use Rattle.integer_tableau.specs.Consistent.{IsConsistent, row_width}
use Rattle.integer_tableau.specs.IntegerTableau.{IntegerTableau, fraction_bounds, tableau_of}
use Rattle.integer_tableau.specs.Numbers.{IsWithin, number_at, total_size}
use Rattle.integer_tableau.specs.Range.{size_limit}
use Rattle.integer_tableau.specs.Pivot.{AreSubstitutedValues, IsEliminated, IsPivotOf, IsPivoted, is_upper}
use Rattle.integer_tableau.specs.Positions.{sum_over}
use Rattle.integer_tableau.proofs.Exchanges.{nonbasic_values_exchanged, positions_exchanged}
use Rattle.integer_tableau.specs.Substitution.{IsSolvedRow, IsSubstitutedIfFull, IsSubstitutedRow, quotient_numerator}
use Rattle.integer_tableau.specs.declared.integer_bounds.IntegerBounds.{IntegerBounds}
use Rattle.integer_tableau.specs.declared.position.Position.{Position}
use Rattle.integer_tableau.specs.declared.position.Position.TheVariants.{InBasis, InColumn}
use Rattle.tableau.specs.Leaving.{unbounded, violated_bound, violation}
use Rattle.tableau.specs.Pivot.{pivoted}
use Rattle.tableau.specs.declared.bounds.Direction.{Direction}

module _ (ps : List (List ℤ)) (weight reach : ℕ) (w : IntegerTableau) (compact : IsCompact ps weight reach w) (r c k : ℕ) (direction : Direction) (b : ℤ)
    (row solved : List ℤ) (value : ℤ) (taken after : List (List ℤ)) (reduced_costs values : List ℤ)
    (r_there : r < length w.positions) (c_there : c < length w.positions)
    (row_is : row ≡ get_or (expanded_rows w.denominator ps w.positions w.rows) r [])
    (value_is : value ≡ number_at (expanded_values w.denominator ps w.positions w.nonbasic_values w.values) r)
    (taken_is : taken ≡ set w.rows r [])
    (p : IsPivotOf w.bounds w.positions row value w.denominator r c k direction b)
    (ex : IsEliminated c k w.denominator (nat_abs (number_at row k)) row solved taken after w.reduced_costs reduced_costs)
    (vs : AreSubstitutedValues c k (pos w.denominator) (pos (nat_abs (number_at row k))) (number_at w.nonbasic_values c)
    (quotient_numerator (number_at row k) (value -ℤ number_at row k *ℤ number_at w.nonbasic_values c -ℤ pos w.denominator *ℤ b)) (length w.reduced_costs) taken w.values values)
    (near : reach * nat_abs (number_at row k) < 2 ^ 63)
    (small : (i : ℕ) → i < length ps → get_or (positions_exchanged r c k w.positions) (length after + i) InBasis ≡ InBasis
    → IsWithin (size_limit - 1) (combined_row (nat_abs (number_at row k)) (positions_exchanged r c k w.positions) after (get_or ps i []))) where
  abbrev n : ℕ
  n = length w.rows

  abbrev d : ℕ
  d = w.denominator

  abbrev e : ℕ
  e = nat_abs (number_at row k)

  abbrev positions' : List Position
  positions' = positions_exchanged r c k w.positions

  abbrev nonbasic_values' : List ℤ
  nonbasic_values' = nonbasic_values_exchanged r c b w.nonbasic_values

  abbrev full : IntegerTableau
  full = expanded ps w

  cons : IsConsistent full
  cons = compact.consistent

  -- after the pivot
  abbrev pub made : IntegerTableau
  made = record w {
    positions = positions';
    at_upper = set (set w.at_upper r (is_upper direction)) c false;
    nonbasic_values = nonbasic_values';
    rows = after;
    reduced_costs = reduced_costs;
    values = values;
    denominator = e;
    pivots = w.pivots + 1;
  }

  abbrev full' : IntegerTableau
  full' = expanded ps made

  apart : r ≢ c
  apart q = let f : InBasis ≡ InColumn k = sym p.leaving ∙ ap (λ v. get_or w.positions v InBasis) q ∙ p.entering in cc

  column : k < n
  column = column_within ps weight reach w compact c k p.entering

  now_c : get_or positions' c InBasis ≡ InBasis
  now_c = get_or-set_same (set w.positions r (InColumn k)) c InBasis InBasis (omega (arith, c_there, length-set w.positions r (InColumn k)))

  now_r : get_or positions' r InBasis ≡ InColumn k
  now_r = get_or-set_other (set w.positions r (InColumn k)) c r InBasis InBasis apart ∙ get_or-set_same w.positions r (InColumn k) InBasis r_there

  still : (v : ℕ) → v ≢ r → v ≢ c → get_or positions' v InBasis ≡ get_or w.positions v InBasis
  still v m o = get_or-set_other (set w.positions r (InColumn k)) c v InBasis InBasis o ∙ get_or-set_other w.positions r v (InColumn k) InBasis m

  positions_many : length positions' ≡ length w.positions
  positions_many = length-set (set w.positions r (InColumn k)) c InBasis ∙ length-set w.positions r (InColumn k)

  -- ---- widths
  taken_many : length taken ≡ n
  taken_many = ap length taken_is ∙ length-set w.rows r []

  after_many : length after ≡ n
  after_many = ex.as_many ∙ taken_many

  row_width_is : length row ≡ n
  row_width_is = ap length row_is ∙ cons.widths r r_there ∙ ap (row_width (length w.reduced_costs)) p.leaving ∙ compact.costs

  solved_width : length solved ≡ n
  solved_width = ex.is_solved.width ∙ row_width_is

  taken_r : r < n → get_or taken r [] ≡ []
  taken_r l = ap (λ ls. get_or ls r []) taken_is ∙ get_or-set_same w.rows r [] [] l

  taken_other : (v : ℕ) → v ≢ r → get_or taken v [] ≡ get_or w.rows v []
  taken_other v m = ap (λ ls. get_or ls v []) taken_is ∙ get_or-set_other w.rows r v [] [] m

  -- ---- the columns take the step
  row_column : r < n → row ≡ get_or w.rows r []
  row_column l = row_is ∙ row_of_column d ps w.positions w.rows r l

  after_c : c < n → get_or after c [] ≡ solved
  after_c l = ex.put (omega (arith, l, taken_many))

  substituted : (v : ℕ) → v < n → v ≢ r → v ≢ c → IsSubstitutedIfFull (pos d) (pos e) k solved (get_or w.rows v []) (get_or after v [])
  substituted v l m o = subst (λ x. IsSubstitutedIfFull (pos d) (pos e) k solved x (get_or after v [])) (taken_other v m) (ex.others v (omega (arith, l, taken_many)) o)

  basic_width : (v : ℕ) → v < n → get_or w.positions v InBasis ≡ InBasis → length (get_or w.rows v []) ≡ n
  basic_width v l q = column_widths ps weight reach w compact v l ∙ ap (row_width n) q

  other_step : (v : ℕ) → v < n → v ≢ r → v ≢ c → (s : Position) → get_or w.positions v InBasis ≡ s → IsStepOf d e k solved (numerator_of d (get_or w.rows v []) s) (numerator_of e (get_or after v []) s)
  other_step v l m o InBasis q = kept_step d e k solved (get_or w.rows v []) (get_or after v []) (omega (arith, column, basic_width v l q))
      ((substituted v l m o).full (basic_width v l q ∙ sym solved_width)).numbers
  other_step v l m o (InColumn j) q = unit_step d e k j solved (get_or w.rows v []) (get_or after v []) (λ z. o (cons.alone c k p.entering v (q ∙ ap InColumn z)))

  abbrev TakesStep : ℕ → Position → Position → Type 0
  TakesStep v s s' = IsStepOf d e k solved (numerator_of d (get_or w.rows v []) s) (numerator_of e (get_or after v []) s')

  column_step : (v : ℕ) → v < n → TakesStep v (get_or w.positions v InBasis) (get_or positions' v InBasis)
  column_step v l = elim (cases_eq v c) [
    | inl q ↦ subst (λ v. TakesStep v (get_or w.positions v InBasis) (get_or positions' v InBasis)) (sym q)
        (subst (λ s. TakesStep c s (get_or positions' c InBasis)) (sym p.entering)
        (subst (λ s. TakesStep c (InColumn k) s) (sym now_c)
        (subst (λ x. IsStepOf d e k solved (numerator_of d (get_or w.rows c []) (InColumn k)) (numerator_of e x InBasis)) (sym (after_c (omega (arith, l, q)))) (entering_step d e k solved (get_or w.rows c [])))))
    | inr o ↦ elim (cases_eq v r) [
      | inl q ↦ subst (λ v. TakesStep v (get_or w.positions v InBasis) (get_or positions' v InBasis)) (sym q)
          (subst (λ s. TakesStep r s (get_or positions' r InBasis)) (sym p.leaving)
          (subst (λ s. TakesStep r InBasis s) (sym now_r)
          (subst (λ x. IsStepOf d e k solved (numerator_of d x InBasis) (numerator_of e (get_or after r []) (InColumn k))) (row_column (omega (arith, l, q)))
          (leaving_step d k solved row (get_or after r []) (omega (arith, column, row_width_is)) ex.is_solved.numbers))))
      | inr m ↦ subst (λ s. TakesStep v (get_or w.positions v InBasis) s) (sym (still v m o)) (other_step v l m o (get_or w.positions v InBasis) refl)
    ]
  ]

  -- so do all combinations
  step : (a : List ℤ) → length a ≡ n → IsStepOf d e k solved (combined d a w.positions w.rows) (combined e a positions' after)
  step a q = combined_step d e k solved a w.positions positions' w.rows after (omega (arith, q, compact.variables)) positions_many (sym q) (after_many ∙ sym q)
      (λ j l. column_step j (omega (arith, l, q)))

  -- ---- what stands in the rows of combinations
  was_narrow : (j : ℕ) → length (get_or w.rows j []) ≤ n
  was_narrow j = elim (cases_lt j n) [
    | inl l ↦ by_position (get_or w.positions j InBasis) (column_widths ps weight reach w compact j l)
    | inr l ↦ subst (λ (x : List ℤ). length x ≤ n) (sym (get_or_past w.rows j [] l)) (omega arith)
  ]
    where
      by_position : (s : Position) → length (get_or w.rows j []) ≡ row_width n s → length (get_or w.rows j []) ≤ n
      by_position InBasis q = omega arith
      by_position (InColumn i) q = omega arith

  was_at : (a : List ℤ) (j : ℕ) → number_at (combined_row d w.positions w.rows a) j ≡ combined d a w.positions w.rows j
  was_at a j = combined_row_at d a w.positions w.rows was_narrow (column_within ps weight reach w compact) j

  -- the rows of columns after the pivot
  after_width : (v : ℕ) → v < n → length (get_or after v []) ≡ row_width n (get_or positions' v InBasis)
  after_width v l = elim (cases_eq v c) [
    | inl q ↦ ap (λ v. length (get_or after v [])) q ∙ ap length (after_c (omega (arith, l, q))) ∙ solved_width ∙ ap (row_width n) (sym now_c ∙ ap (λ v. get_or positions' v InBasis) (sym q))
    | inr o ↦ elim (cases_eq v r) [
      | inl q ↦ ap (λ v. length (get_or after v [])) q ∙ ap length (emptied (omega (arith, l, q))) ∙ ap (row_width n) (sym now_r ∙ ap (λ v. get_or positions' v InBasis) (sym q))
      | inr m ↦ other_width v l m o (get_or w.positions v InBasis) refl ∙ ap (row_width n) (sym (still v m o))
    ]
  ]
    where
      emptied : r < n → get_or after r [] ≡ []
      emptied l = (ex.others r (omega (arith, l, taken_many)) apart).other (λ q. omega (arith, q, ap length (taken_r l), solved_width, column)) ∙ taken_r l

      other_width : (v : ℕ) → v < n → v ≢ r → v ≢ c → (s : Position) → get_or w.positions v InBasis ≡ s → length (get_or after v []) ≡ row_width n s
      other_width v l m o InBasis q = ((substituted v l m o).full (basic_width v l q ∙ sym solved_width)).width ∙ basic_width v l q
      other_width v l m o (InColumn j) q =
          let none : length (get_or w.rows v []) ≡ 0 = column_widths ps weight reach w compact v l ∙ ap (row_width n) q in
          ap length ((substituted v l m o).other (λ z. omega (arith, z, none, solved_width, column))) ∙ none

  now_within : (v i : ℕ) → get_or positions' v InBasis ≡ InColumn i → i < n
  now_within v i q = elim (cases_eq v c) [
    | inl z ↦ absurd (let f : InBasis ≡ InColumn i = sym now_c ∙ ap (λ v. get_or positions' v InBasis) (sym z) ∙ q in cc)
    | inr o ↦ elim (cases_eq v r) [
      | inl z ↦ (let f : InColumn k ≡ InColumn i = sym now_r ∙ ap (λ v. get_or positions' v InBasis) (sym z) ∙ q in let g : k ≡ i = cc in omega (arith, g, column))
      | inr m ↦ column_within ps weight reach w compact v i (sym (still v m o) ∙ q)
    ]
  ]

  now_narrow : (j : ℕ) → length (get_or after j []) ≤ length after
  now_narrow j = elim (cases_lt j n) [
    | inl l ↦ by_position (get_or positions' j InBasis) (after_width j l)
    | inr l ↦ subst (λ (x : List ℤ). length x ≤ length after) (sym (get_or_past after j [] (omega (arith, l, after_many)))) (omega arith)
  ]
    where
      by_position : (s : Position) → length (get_or after j []) ≡ row_width n s → length (get_or after j []) ≤ length after
      by_position InBasis q = omega (arith, q, after_many)
      by_position (InColumn i) q = omega (arith, q)

  now_at : (a : List ℤ) (j : ℕ) → number_at (combined_row e positions' after a) j ≡ combined e a positions' after j
  now_at a j = combined_row_at e a positions' after now_narrow (λ v i q. omega (arith, now_within v i q, after_many)) j

  was_width : (a : List ℤ) → length (combined_row d w.positions w.rows a) ≡ n
  was_width a = length-numbers_from 0 n (combined d a w.positions w.rows)

  now_width : (a : List ℤ) → length (combined_row e positions' after a) ≡ n
  now_width a = length-numbers_from 0 (length after) (combined e a positions' after) ∙ after_many

  -- ---- the rows of rows' variables
  abbrev a_of : ℕ → List ℤ
  a_of i = get_or ps i []

  was_row : (i : ℕ) → i < length ps → get_or full.rows (n + i) [] ≡ row_if_basic (get_or w.positions (n + i) InBasis) (combined_row d w.positions w.rows (a_of i))
  was_row i l = row_of_row d ps w.positions w.rows compact.variables i l

  now_many : length positions' ≡ length after + length ps
  now_many = positions_many ∙ compact.variables ∙ ap (λ m. m + length ps) (sym after_many)

  now_row : (i : ℕ) → i < length ps → get_or full'.rows (n + i) [] ≡ row_if_basic (get_or positions' (n + i) InBasis) (combined_row e positions' after (a_of i))
  now_row i l = ap (λ m. get_or full'.rows (m + i) []) (sym after_many) ∙ row_of_row e ps positions' after now_many i l
      ∙ ap (λ m. row_if_basic (get_or positions' (m + i) InBasis) (combined_row e positions' after (a_of i))) after_many

  now_column : (v : ℕ) → v < n → get_or full'.rows v [] ≡ get_or after v []
  now_column v l = row_of_column e ps positions' after v (omega (arith, l, after_many))

  e_positive : 0 < e
  e_positive = p.coefficient

  -- the entering variable's combination is the solved row
  entered : (i : ℕ) → i < length ps → c ≡ n + i → combined_row e positions' after (a_of i) ≡ solved
  entered i l q = same_lists _ _ (now_width (a_of i) ∙ sym solved_width) (λ j z m.
      get_or_default (combined_row e positions' after (a_of i)) j z (pos 0) m
      ∙ now_at (a_of i) j
      ∙ cancel_ℤ (combined e (a_of i) positions' after j) (number_at solved j) d cons.positive
      (step (a_of i) (compact.full i l) j ∙ (λ t. (if nat_eq j k then pos 0 else unit j t) *ℤ pos e +ℤ number_at solved j *ℤ unit k t) ∙ sym (entering_step d e k solved [] j))
      ∙ sym (get_or_default solved j z (pos 0) (omega (arith, m, now_width (a_of i), solved_width))))
    where
      unit : (j : ℕ) → combined d (a_of i) w.positions w.rows j ≡ numerator_of d [] (InColumn k) j
      unit j = compact.units i k l (ap (λ v. get_or w.positions v InBasis) (sym q) ∙ p.entering) j

  -- the leaving variable's one says that it is itself
  left_unit : (i : ℕ) → i < length ps → r ≡ n + i → (j : ℕ) → combined e (a_of i) positions' after j ≡ numerator_of e [] (InColumn k) j
  left_unit i l q j = cancel_ℤ (combined e (a_of i) positions' after j) (numerator_of e [] (InColumn k) j) d cons.positive
      (step (a_of i) (compact.full i l) j ∙ (λ t. (if nat_eq j k then pos 0 else same j t) *ℤ pos e +ℤ number_at solved j *ℤ same k t)
      ∙ sym (leaving_step d k solved row [] (omega (arith, column, row_width_is)) ex.is_solved.numbers j))
    where
      same : (j : ℕ) → combined d (a_of i) w.positions w.rows j ≡ number_at row j
      same j = sym (ap (λ (x : List ℤ). number_at x j) (row_is ∙ ap (λ v. get_or full.rows v []) q ∙ was_row i l
          ∙ ap (λ s. row_if_basic s (combined_row d w.positions w.rows (a_of i))) (ap (λ v. get_or w.positions v InBasis) (sym q) ∙ p.leaving)) ∙ was_at (a_of i) j)

  -- another one that isn't basic still says that it is itself
  still_unit : (i h : ℕ) → i < length ps → n + i ≢ c → get_or w.positions (n + i) InBasis ≡ InColumn h → (j : ℕ) → combined e (a_of i) positions' after j ≡ numerator_of e [] (InColumn h) j
  still_unit i h l o q j = cancel_ℤ (combined e (a_of i) positions' after j) (numerator_of e [] (InColumn h) j) d cons.positive
      (step (a_of i) (compact.full i l) j ∙ (λ t. (if nat_eq j k then pos 0 else compact.units i h l q j t) *ℤ pos e +ℤ number_at solved j *ℤ compact.units i h l q k t)
      ∙ sym (unit_step d e k h solved [] [] (λ z. o (cons.alone c k p.entering (n + i) (q ∙ ap InColumn z))) j))

  units' : (i h : ℕ) → i < length ps → get_or positions' (length after + i) InBasis ≡ InColumn h → (j : ℕ) → combined e (a_of i) positions' after j ≡ numerator_of e [] (InColumn h) j
  units' i h l q j = elim (cases_eq (n + i) c) [
    | inl z ↦ absurd (let f : InBasis ≡ InColumn h = sym now_c ∙ ap (λ v. get_or positions' v InBasis) (sym z) ∙ ap (λ m. get_or positions' (m + i) InBasis) (sym after_many) ∙ q in cc)
    | inr o ↦ elim (cases_eq (n + i) r) [
      | inl z ↦ (let f : InColumn k ≡ InColumn h = sym now_r ∙ ap (λ v. get_or positions' v InBasis) (sym z) ∙ ap (λ m. get_or positions' (m + i) InBasis) (sym after_many) ∙ q in
          let g : k ≡ h = cc in left_unit i l (sym z) j ∙ ap (λ h. numerator_of e [] (InColumn h) j) g)
      | inr m ↦ still_unit i h l o (sym (still (n + i) m o) ∙ ap (λ m. get_or positions' (m + i) InBasis) (sym after_many) ∙ q) j
    ]
  ]

  -- another basic one has the variable substituted
  combined_substituted : (i : ℕ) → i < length ps → n + i ≢ r → n + i ≢ c → get_or w.positions (n + i) InBasis ≡ InBasis
      → IsSubstitutedRow (pos d) (pos e) k solved (combined_row d w.positions w.rows (a_of i)) (combined_row e positions' after (a_of i))
  combined_substituted i l m o q = record {
    before = subst (IsWithin (size_limit - 1)) (was_row i l ∙ ap (λ s. row_if_basic s (combined_row d w.positions w.rows (a_of i))) q) (cons.rows_within (n + i));
    after = small i l (ap (λ m. get_or positions' (m + i) InBasis) after_many ∙ still (n + i) m o ∙ q);
    numbers = λ j.
        ap (λ z. z *ℤ pos d) (now_at (a_of i) j) ∙ step (a_of i) (compact.full i l) j
        ∙ (λ t. (if nat_eq j k then pos 0 else sym (was_at (a_of i) j) t) *ℤ pos e +ℤ number_at solved j *ℤ sym (was_at (a_of i) k) t)
        ∙ ap (λ z. z *ℤ pos e +ℤ number_at solved j *ℤ number_at (combined_row d w.positions w.rows (a_of i)) k)
        (sym (set_is_but k (combined_row d w.positions w.rows (a_of i)) j (omega (arith, column, was_width (a_of i)))));
    width = now_width (a_of i) ∙ sym (was_width (a_of i));
  }

  -- ---- all variables
  row_at_c : get_or full'.rows c [] ≡ solved
  row_at_c = elim (which n (length ps) c (omega (arith, c_there, compact.variables))) [
    | inl l ↦ now_column c l ∙ after_c l
    | inr z ↦ ap (λ v. get_or full'.rows v []) z.2 ∙ now_row z.0 z.1
        ∙ ap (λ s. row_if_basic s (combined_row e positions' after (a_of z.0))) (ap (λ v. get_or positions' v InBasis) (sym z.2) ∙ now_c) ∙ entered z.0 z.1 z.2
  ]

  row_at_r : get_or full'.rows r [] ≡ []
  row_at_r = elim (which n (length ps) r (omega (arith, r_there, compact.variables))) [
    | inl l ↦ now_column r l ∙ (ex.others r (omega (arith, l, taken_many)) apart).other (λ q. omega (arith, q, ap length (taken_r l), solved_width, column)) ∙ taken_r l
    | inr z ↦ ap (λ v. get_or full'.rows v []) z.2 ∙ now_row z.0 z.1
        ∙ ap (λ s. row_if_basic s (combined_row e positions' after (a_of z.0))) (ap (λ v. get_or positions' v InBasis) (sym z.2) ∙ now_r)
  ]

  abbrev IsSubstitutedAt : ℕ → Type 0
  IsSubstitutedAt v = IsSubstitutedIfFull (pos d) (pos e) k solved (get_or full.rows v []) (get_or full'.rows v [])

  behind_at : (i : ℕ) → i < length ps → n + i ≢ r → n + i ≢ c → (s : Position) → get_or w.positions (n + i) InBasis ≡ s → IsSubstitutedAt (n + i)
  behind_at i l m o InBasis q =
      subst (λ x. IsSubstitutedIfFull (pos d) (pos e) k solved x (get_or full'.rows (n + i) [])) (sym (was_row i l ∙ ap (λ s. row_if_basic s (combined_row d w.positions w.rows (a_of i))) q))
      (subst (λ x. IsSubstitutedIfFull (pos d) (pos e) k solved (combined_row d w.positions w.rows (a_of i)) x)
      (sym (now_row i l ∙ ap (λ s. row_if_basic s (combined_row e positions' after (a_of i))) (still (n + i) m o ∙ q)))
      record { full = λ z. combined_substituted i l m o q; other = λ z. absurd (z (was_width (a_of i) ∙ sym solved_width)) })
  behind_at i l m o (InColumn h) q =
      subst (λ x. IsSubstitutedIfFull (pos d) (pos e) k solved x (get_or full'.rows (n + i) [])) (sym (was_row i l ∙ ap (λ s. row_if_basic s (combined_row d w.positions w.rows (a_of i))) q))
      (subst (λ x. IsSubstitutedIfFull (pos d) (pos e) k solved [] x)
      (sym (now_row i l ∙ ap (λ s. row_if_basic s (combined_row e positions' after (a_of i))) (still (n + i) m o ∙ q)))
      record { full = λ z. absurd (omega (arith, z, solved_width, column)); other = λ z. refl })

  other_at : (v : ℕ) → v < length w.positions → v ≢ r → v ≢ c → IsSubstitutedAt v
  other_at v l m o = elim (which n (length ps) v (omega (arith, l, compact.variables))) [
    | inl h ↦ subst (λ x. IsSubstitutedIfFull (pos d) (pos e) k solved x (get_or full'.rows v [])) (sym (row_of_column d ps w.positions w.rows v h))
        (subst (λ x. IsSubstitutedIfFull (pos d) (pos e) k solved (get_or w.rows v []) x) (sym (now_column v h)) (substituted v h m o))
    | inr z ↦ subst IsSubstitutedAt (sym z.2) (behind_at z.0 z.1 (λ q. m (z.2 ∙ q)) (λ q. o (z.2 ∙ q)) (get_or w.positions (n + z.0) InBasis) refl)
  ]

  eliminated : AreEliminated r c k d full.rows full'.rows w.reduced_costs reduced_costs
  eliminated = record {
    solved = subst (λ x. IsSolvedRow k d x (get_or full'.rows c [])) row_is (subst (IsSolvedRow k d row) (sym row_at_c) ex.is_solved);
    emptied = row_at_r;
    others = λ v l m o.
        subst (λ x. IsSubstitutedIfFull (pos d) (pos (nat_abs (number_at x k))) k (get_or full'.rows c []) (get_or full.rows v []) (get_or full'.rows v [])) row_is
        (subst (λ y. IsSubstitutedIfFull (pos d) (pos e) k y (get_or full.rows v []) (get_or full'.rows v [])) (sym row_at_c) (other_at v (omega (arith, l, cons.rows)) m o));
    costs =
        subst (λ x. IsSubstitutedRow (pos d) (pos (nat_abs (number_at x k))) k (get_or full'.rows c []) w.reduced_costs reduced_costs) row_is
        (subst (λ y. IsSubstitutedRow (pos d) (pos e) k y w.reduced_costs reduced_costs) (sym row_at_c) ex.costs);
    as_many = rows_many e ps positions' after now_many ∙ ap (λ m. m + length ps) after_many ∙ sym (rows_many d ps w.positions w.rows compact.variables);
  }

  pivot : 0 < nat_abs (number_at (get_or full.rows r []) k)
  pivot = subst (λ x. 0 < nat_abs (number_at x k)) row_is p.coefficient

  -- ---- values
  abbrev entering : ℤ
  entering = quotient_numerator (number_at row k) (value -ℤ number_at row k *ℤ number_at w.nonbasic_values c -ℤ pos d *ℤ b)

  entering_sum : entering ≡ sum_over positions' (get_or full'.rows c []) nonbasic_values'
  entering_sum = entering_exact full cons r c k b full'.rows reduced_costs p.entering p.leaving c_there r_there pivot eliminated entering
      (λ t. quotient_numerator (number_at (row_is t) k) (value_is t -ℤ number_at (row_is t) k *ℤ number_at w.nonbasic_values c -ℤ pos d *ℤ b))

  column_c : c < n → number_at values c ≡ sum_over positions' (get_or after c []) nonbasic_values'
  column_c l = vs.put (omega (arith, l, compact.values)) ∙ entering_sum ∙ ap (λ x. sum_over positions' x nonbasic_values') (now_column c l)

  column_v : (v : ℕ) → v < n → v ≢ r → v ≢ c → get_or w.positions v InBasis ≡ InBasis → number_at values v ≡ sum_over positions' (get_or after v []) nonbasic_values'
  column_v v l m o q =
      other_exact full cons r c k b full'.rows reduced_costs p.entering p.leaving c_there r_there pivot eliminated v (number_at values v) entering
      (omega (arith, l, compact.variables)) m q entering_sum
      (vs.others v (omega (arith, l, compact.values)) o (ap length (taken_other v m) ∙ basic_width v l q ∙ sym compact.costs)
      ∙ (λ t. (sym (value_of_column d ps w.positions w.nonbasic_values w.values v (omega (arith, l, compact.values))) t -ℤ number_at (row_there t) k *ℤ number_at w.nonbasic_values c)
      *ℤ pos (nat_abs (number_at (row_is t) k)) +ℤ entering *ℤ number_at (row_there t) k))
      ∙ ap (λ x. sum_over positions' x nonbasic_values') (now_column v l)
    where
      row_there : get_or taken v [] ≡ get_or full.rows v []
      row_there = taken_other v m ∙ sym (row_of_column d ps w.positions w.rows v l)

  column_sum : (v : ℕ) → v < length after → get_or positions' v InBasis ≡ InBasis → number_at values v ≡ sum_over positions' (get_or after v []) nonbasic_values'
  column_sum v l q = elim (cases_eq v c) [
    | inl z ↦ subst (λ u. number_at values u ≡ sum_over positions' (get_or after u []) nonbasic_values') (sym z) (column_c (omega (arith, l, z, after_many)))
    | inr o ↦ elim (cases_eq v r) [
      | inl z ↦ absurd (let f : InColumn k ≡ InBasis = sym now_r ∙ ap (λ u. get_or positions' u InBasis) (sym z) ∙ q in cc)
      | inr m ↦ column_v v (omega (arith, l, after_many)) m o (sym (still v m o) ∙ q)
    ]
  ]

  values_there : length values ≡ length after
  values_there = vs.as_many ∙ compact.values ∙ sym after_many

  nonbasic_many : length nonbasic_values' ≡ length positions'
  nonbasic_many = length-set (set w.nonbasic_values r b) c (pos 0) ∙ length-set w.nonbasic_values r b ∙ cons.nonbasic_values ∙ sym positions_many

  row_sum : (i : ℕ) → i < length ps → number_at full'.values (n + i) ≡ sum_over positions' (combined_row e positions' after (a_of i)) nonbasic_values'
  row_sum i l =
      ap (λ m. number_at full'.values (m + i)) (sym (values_there ∙ after_many))
      ∙ value_of_row e ps positions' nonbasic_values' values i l
      ∙ row_value e positions' after nonbasic_values' values (omega (arith, now_many)) nonbasic_many values_there
      (alone_after full cons r c k b full'.rows reduced_costs p.entering p.leaving c_there r_there pivot eliminated)
      (λ v i q. omega (arith, now_within v i q, after_many))
      (λ j l. after_width j (omega (arith, l, after_many)) ∙ ap (λ m. row_width m (get_or positions' j InBasis)) (sym after_many))
      column_sum (a_of i) (compact.full i l ∙ sym after_many)

  exact_after : (v : ℕ) → v < length w.positions → get_or positions' v InBasis ≡ InBasis → number_at full'.values v ≡ sum_over positions' (get_or full'.rows v []) nonbasic_values'
  exact_after v l q = elim (which n (length ps) v (omega (arith, l, compact.variables))) [
    | inl h ↦ value_of_column e ps positions' nonbasic_values' values v (omega (arith, h, values_there, after_many)) ∙ column_sum v (omega (arith, h, after_many)) q
        ∙ ap (λ x. sum_over positions' x nonbasic_values') (sym (now_column v h))
    | inr z ↦ ap (number_at full'.values) z.2 ∙ row_sum z.0 z.1
        ∙ ap (λ x. sum_over positions' x nonbasic_values') (sym (ap (λ v. get_or full'.rows v []) z.2 ∙ now_row z.0 z.1
        ∙ ap (λ s. row_if_basic s (combined_row e positions' after (a_of z.0))) (ap (λ v. get_or positions' v InBasis) (sym z.2) ∙ q)))
  ]

  full_values_many : length full'.values ≡ length full.values
  full_values_many =
      values_many e ps positions' nonbasic_values' values ∙ ap (λ m. m + length ps) vs.as_many
      ∙ sym (values_many d ps w.positions w.nonbasic_values w.values)

  -- ---- sizes
  abbrev none : IntegerBounds
  none = record { lower = None; upper = None }

  bound_there : r < length w.bounds
  bound_there = omega (arith, r_there, cons.bounds)

  bound_is : violated_bound direction (fraction_bounds (get_or w.bounds r none)) ≡ whole b
  bound_is = ap (violated_bound direction) (sym (get_or-map fraction_bounds w.bounds r none unbounded bound_there)) ∙ p.bound

  xs_many : length w.nonbasic_values ≡ length w.positions
  xs_many = cons.nonbasic_values

  was_bounded : (v : ℕ) → v < length w.nonbasic_values → nat_abs (number_at w.nonbasic_values v) ≤ bound_size (get_or w.bounds v none)
  was_bounded v l = compact.bounded v (omega (arith, l, xs_many))

  bounded' : (v : ℕ) → v < length positions' → nat_abs (number_at nonbasic_values' v) ≤ bound_size (get_or w.bounds v none)
  bounded' v l = exchanged_bounded w.bounds w.nonbasic_values r c direction b (omega (arith, r_there, xs_many)) (omega (arith, c_there, xs_many)) apart bound_is was_bounded v
      (omega (arith, l, positions_many, xs_many))

  total_small : total_size nonbasic_values' < size_limit
  total_small = exchanged_total w.bounds w.nonbasic_values r c direction b (omega (arith, r_there, xs_many)) (omega (arith, c_there, xs_many)) apart bound_is was_bounded
      (xs_many ∙ sym cons.bounds) compact.room

  -- ---- all of it
  -- with the denominator that this leaving row gives
  abbrev made_by : List ℤ → IntegerTableau
  made_by x = record full' { denominator = nat_abs (number_at x k) }

  pub pivot_is : (numbers : List ℕ) → pivoted r c (tableau_of n numbers full) ≡ Some (tableau_of n numbers full')
  pivot_is numbers = subst (λ x. pivoted r c (tableau_of n numbers full) ≡ Some (tableau_of n numbers (made_by x))) (sym row_is)
      (full_pivot_is full cons r c k b full'.rows reduced_costs p.entering p.leaving c_there r_there pivot eliminated direction full'.values full_values_many exact_after
      (ap (λ z. violation (get_or (map fraction_bounds w.bounds) r unbounded) (frac z d)) (sym value_is) ∙ p.direction) p.bound total_small n numbers)

  pub pivot_compact : IsCompact ps weight reach made
  pivot_compact = record {
    consistent = subst (λ x. IsConsistent (made_by x)) (sym row_is)
        (full_pivot_consistent full cons r c k b full'.rows reduced_costs p.entering p.leaving c_there r_there pivot eliminated direction full'.values full_values_many exact_after
        (ap (λ z. violation (get_or (map fraction_bounds w.bounds) r unbounded) (frac z d)) (sym value_is) ∙ p.direction) p.bound total_small);
    costs = ex.costs.width ∙ compact.costs ∙ sym after_many;
    values = values_there;
    variables = now_many;
    full = λ i l. compact.full i l ∙ sym after_many;
    units = units';
    weights = compact.weights;
    light = compact.light;
    reached = λ j l. compact.reached j (omega (arith, l, after_many));
    near = near;
    bounded = bounded';
    room = compact.room;
  }

  pub is_pivoted : IsPivoted ps weight reach r c w made
  is_pivoted = record { columns = after_many; pivoted = pivot_is; compact = pivot_compact }
