-- A dictionary of a linear program is one of the linear program with further rows: the variable of each further row is basic.
use Rattle.std.proofs.Common.{◌≡◌, ℕ, zero, suc, ◌+◌, ◌-◌, ◌<◌, ◌≤◌, arith, refl, ap, sym, subst, ◌∙◌, inl, inr, false, List, [], ◌∷◌, ◌++◌, length, get_or, take, drop, map, replicate, append_assoc}
use Rattle.std.specs.Prelude.{ℤ, ◌+ℤ◌, ◌*ℤ◌}
use Rattle.std.proofs.lemmas.Bool.{cases_lt}
use Rattle.std.proofs.lemmas.List.{drop-append-le, get_or-append-add, get_or-map, get_or-take, get_or_append_left, get_or_past, length-append, length-drop, length-map, length-replicate, length-take-le, map-append}
use Rattle.fraction.specs.Lemmas.Bounds.{dot_value}
use Rattle.fraction.specs.Rational.{ℚ, whole, ◌*ℚ◌, ◌+ℚ◌}
use Rattle.tableau.specs.Elimination.{entry, zero_ℚ}
use Rattle.tableau.specs.Invariants.{IsCanonical, IsCanonicalRow, IsNonbasic, Solves, SolvesRows}
use Rattle.tableau.specs.Lemmas.Places.{not_both_statuses}
use Rattle.tableau.specs.Lemmas.Started.{dot-padded}
use Rattle.tableau.specs.Start.{padded}
use Rattle.tableau.specs.Tableau.{Tableau, row_of, status_of}
use Rattle.tableau.specs.declared.status.BasisStatus.TheVariants.{Basic}
use Rattle.integer_tableau.proofs.AllRows.{get_or-rows_of, length-rows_of}
use Rattle.integer_tableau.proofs.Combining.{length-numbers_from}
use Rattle.integer_tableau.proofs.Expanded.{row_of_column, rows_many, which}
use Rattle.integer_tableau.proofs.FurtherSums.{row_says}
use Rattle.integer_tableau.proofs.Starting.{rows_in_basis}
use Rattle.integer_tableau.proofs.Statuses.{basic_position, basic_status, get_or-statuses}
use Rattle.integer_tableau.specs.BasicColumns.{basic_from}
use Rattle.integer_tableau.specs.Combined.{combined, combined_row, expanded_rows, numbers_from, numerator_of, row_if_basic, rows_behind}
use Rattle.integer_tableau.specs.Consistent.{row_width}
use Rattle.integer_tableau.specs.Dictionary.{IsDictionaryOf}
use Rattle.integer_tableau.specs.IntegerDictionary.{IntegerDictionary, IsCompactDictionary, IsStored, fraction_dictionary, position_of, program_of}
use Rattle.integer_tableau.specs.IntegerProgram.{CanStart}
use Rattle.integer_tableau.specs.IntegerTableau.{row_of_position, status}
use Rattle.integer_tableau.specs.Numbers.{IsWithin}
use Rattle.integer_tableau.specs.Positions.{AreNonbasic, coefficient, coefficients}
use Rattle.integer_tableau.specs.Range.{size_limit}
use Rattle.integer_tableau.specs.declared.integer_bounds.IntegerBounds.{IntegerBounds}
use Rattle.integer_tableau.specs.declared.position.Position.{Position}
use Rattle.integer_tableau.specs.declared.position.Position.TheVariants.{InBasis, InColumn}

-- ---- more basic variables behind all
pub longer_position : (ss : List Position) (n v : ℕ) → get_or (ss ++ replicate n InBasis) v InBasis ≡ get_or ss v InBasis
longer_position [] n v = rows_in_basis n v
longer_position (s ∷ ss) n zero = refl
longer_position (s ∷ ss) n (suc v) = longer_position ss n v

pub longer_many : (ss : List Position) (n : ℕ) → length (ss ++ replicate n InBasis) ≡ length ss + n
longer_many ss n = length-append ss (replicate n InBasis) ∙ ap (λ k. length ss + k) (length-replicate n InBasis)

pub longer_nonbasic : (ss : List Position) (n : ℕ) (nonbasic : List ℕ) → AreNonbasic ss nonbasic → AreNonbasic (ss ++ replicate n InBasis) nonbasic
longer_nonbasic ss n nonbasic h = record {
  there = λ k l. longer_position ss n (get_or nonbasic k 0) ∙ h.there k l;
  all = λ v k e. h.all v k (sym (longer_position ss n v) ∙ e);
}

pub longer_basic : (i n : ℕ) (ss ts : List Position) → n ≤ length ss → basic_from i n (ss ++ ts) ≡ basic_from i n ss
longer_basic i zero ss ts l = refl
longer_basic i (suc n) [] ts l = absurd (omega arith)
longer_basic i (suc n) (InBasis ∷ ss) ts l = ap (λ js. i ∷ js) (longer_basic (suc i) n ss ts (omega arith))
longer_basic i (suc n) (InColumn k ∷ ss) ts l = longer_basic (suc i) n ss ts (omega arith)

-- a combination of columns looks at no position behind these
combined_longer : (d : ℕ) (cs : List ℤ) (ss ts : List Position) (ls : List (List ℤ)) (k : ℕ) → length ls ≤ length ss → combined d cs (ss ++ ts) ls k ≡ combined d cs ss ls k
combined_longer d [] ss ts ls k h = refl
combined_longer d (c ∷ cs) [] [] ls k h = refl
combined_longer d (c ∷ cs) [] (t ∷ ts) [] k h = refl
combined_longer d (c ∷ cs) [] (t ∷ ts) (l ∷ ls) k h = absurd (omega arith)
combined_longer d (c ∷ cs) (s ∷ ss) ts [] k h = refl
combined_longer d (c ∷ cs) (s ∷ ss) ts (l ∷ ls) k h = ap (λ z. c *ℤ numerator_of d l s k +ℤ z) (combined_longer d cs ss ts ls k (omega arith))

row_longer : (d : ℕ) (ss ts : List Position) (ls : List (List ℤ)) (cs : List ℤ) → length ls ≤ length ss → combined_row d (ss ++ ts) ls cs ≡ combined_row d ss ls cs
row_longer d ss ts ls cs h = λ i. numbers_from 0 (length ls) (λ k. combined_longer d cs ss ts ls k h i)

behind_longer : (f : List ℤ → List ℤ) (ss : List Position) (ps qs : List (List ℤ)) → length ss ≡ length ps
    → rows_behind f (ss ++ replicate (length qs) InBasis) (ps ++ qs) ≡ rows_behind f ss ps ++ map f qs
behind_longer f [] [] [] e = refl
behind_longer f [] [] (q ∷ qs) e = ap (λ ls. f q ∷ ls) (behind_longer f [] [] qs refl)
behind_longer f [] (p ∷ ps) qs e = absurd (omega arith)
behind_longer f (s ∷ ss) [] qs e = absurd (omega arith)
behind_longer f (s ∷ ss) (p ∷ ps) qs e = ap (λ ls. row_if_basic s (f p) ∷ ls) (behind_longer f ss ps qs (omega arith))

coefficients_longer : (d : ℕ) (ss : List Position) (n : ℕ) (row : List ℤ) → coefficients d (ss ++ replicate n InBasis) row ≡ padded n (coefficients d ss row)
coefficients_longer d ss n row = map-append (coefficient d row) ss (replicate n InBasis) ∙ ap (λ qs. coefficients d ss row ++ qs) (none n)
  where
    none : (n : ℕ) → map (coefficient d row) (replicate n InBasis) ≡ replicate n zero_ℚ
    none zero = refl
    none (suc n) = ap (λ qs. zero_ℚ ∷ qs) (none n)

-- ---- a dictionary as a tableau of fractions
module _ (ps : List (List ℤ)) (m : IntegerDictionary) (many : length m.positions ≡ length m.rows + length ps) where
  abbrev tableau : Tableau
  tableau = fraction_dictionary ps m

  abbrev all_rows : List (List ℤ)
  all_rows = expanded_rows m.denominator ps m.positions m.rows

  as_many : length all_rows ≡ length m.positions
  as_many = rows_many m.denominator ps m.positions m.rows many ∙ sym many

  status_in : (v : ℕ) → v < length m.positions → status_of tableau v ≡ status (position_of m v) (get_or (map (λ s. false) m.positions) v false)
  status_in v l = get_or-statuses m.positions (map (λ s. false) m.positions) v (length-map m.positions (λ s. false)) l

  is_basic : (v : ℕ) → v < length m.positions → position_of m v ≡ InBasis → status_of tableau v ≡ Basic
  is_basic v l e = status_in v l ∙ basic_status (position_of m v) (get_or (map (λ s. false) m.positions) v false) e

  was_basic : (v : ℕ) → v < length m.positions → status_of tableau v ≡ Basic → position_of m v ≡ InBasis
  was_basic v l e = basic_position (position_of m v) (get_or (map (λ s. false) m.positions) v false) (sym (status_in v l) ∙ e)

  row_is : (v : ℕ) → v < length m.positions → (s : Position) → position_of m v ≡ s → row_of tableau v ≡ row_of_position m.denominator m.positions s (get_or all_rows v [])
  row_is v l s e =
      get_or-rows_of (row_of_position m.denominator m.positions) m.positions all_rows v as_many l
      ∙ ap (λ s. row_of_position m.denominator m.positions s (get_or all_rows v [])) e

  canonical_row : (row : List ℤ) → IsCanonicalRow (length m.positions) tableau (coefficients m.denominator m.positions row)
  canonical_row row = record {
    full = length-map m.positions (coefficient m.denominator row);
    clear = λ j l e. get_or-map (coefficient m.denominator row) m.positions j InBasis zero_ℚ l ∙ ap (coefficient m.denominator row) (was_basic j l e);
  }

  none_of : (v : ℕ) → v < length m.positions → IsNonbasic (status_of tableau v) → (s : Position) → position_of m v ≡ s → row_of tableau v ≡ []
  none_of v l h InBasis e = absurd (not_both_statuses (status_of tableau v) (is_basic v l e) h)
  none_of v l h (InColumn k) e = row_is v l (InColumn k) e

  canonical : IsCanonical (length m.positions) tableau
  canonical = record {
    rows = λ v l e. subst (IsCanonicalRow (length m.positions) tableau) (sym (row_is v l InBasis (was_basic v l e))) (canonical_row (get_or all_rows v []));
    costs = canonical_row m.reduced_costs;
    nonbasic = λ v l h. none_of v l h (position_of m v) refl;
  }

  count : length tableau.rows ≡ length m.positions
  count = length-rows_of (row_of_position m.denominator m.positions) m.positions all_rows as_many

-- a sum looks at no number behind its row
dot_front : (row : List ℚ) (n : ℕ) (x : List ℚ) → length row ≤ n → dot_value row x ≡ dot_value row (take n x)
dot_front [] n x l = refl
dot_front (t ∷ row) zero x l = absurd (omega arith)
dot_front (t ∷ row) (suc n) [] l = refl
dot_front (t ∷ row) (suc n) (y ∷ x) l = ap (λ z. t *ℚ y +ℚ z) (dot_front row n x (omega arith))

-- ---- with further rows
module _ (ps further : List (List ℤ)) (m : IntegerDictionary) (many : length m.positions ≡ length m.rows + length ps) where
  abbrev n : ℕ
  n = length m.positions

  abbrev d : ℕ
  d = m.denominator

  abbrev more : List Position
  more = replicate (length further) InBasis

  abbrev all : List (List ℤ)
  all = ps ++ further

  abbrev pub longer : IntegerDictionary
  longer = record { positions = m.positions ++ replicate (length further) InBasis; rows = m.rows; reduced_costs = m.reduced_costs; denominator = m.denominator }

  abbrev made : List ℤ → List ℤ
  made = combined_row m.denominator m.positions m.rows

  enough : length m.rows ≤ n
  enough = omega (arith, many)

  now_many : length longer.positions ≡ n + length further
  now_many = longer_many m.positions (length further)

  variables : length longer.positions ≡ length longer.rows + length all
  variables = omega (arith, now_many, many, length-append ps further)

  position : (v : ℕ) → position_of longer v ≡ position_of m v
  position v = longer_position m.positions (length further) v

  basic_behind : (v : ℕ) → n ≤ v → position_of longer v ≡ InBasis
  basic_behind v l = position v ∙ get_or_past m.positions v InBasis l

  rows_longer : all_rows all longer variables ≡ all_rows ps m many ++ map made further
  rows_longer =
      (λ i. m.rows ++ rows_behind (λ a. row_longer d m.positions more m.rows a enough i) (drop-append-le (length m.rows) m.positions more enough i) all)
      ∙ ap (λ ls. m.rows ++ ls) (behind_longer made (drop (length m.rows) m.positions) ps further (omega (arith, many, length-drop (length m.rows) m.positions)))
      ∙ sym (append_assoc m.rows (rows_behind made (drop (length m.rows) m.positions) ps) (map made further))

  old_row : (v : ℕ) → v < n → get_or (all_rows all longer variables) v [] ≡ get_or (all_rows ps m many) v []
  old_row v l = ap (λ ls. get_or ls v []) rows_longer ∙ get_or_append_left (all_rows ps m many) (map made further) [] v (omega (arith, l, as_many ps m many))

  pub row_stays : (v : ℕ) → v < length m.positions
      → get_or (expanded_rows m.denominator (ps ++ further) (m.positions ++ replicate (length further) InBasis) m.rows) v [] ≡ get_or (expanded_rows m.denominator ps m.positions m.rows) v []
  row_stays = old_row

  new_row : (j : ℕ) → j < length further → get_or (all_rows all longer variables) (n + j) [] ≡ made (get_or further j [])
  new_row j l =
      (λ i. get_or (rows_longer i) (sym (as_many ps m many) i + j) []) ∙ get_or-append-add (all_rows ps m many) (map made further) j [] ∙ get_or-map made further j [] [] l

  module _ (weight weight' : ℕ) (costs : List ℤ) (bounds : List IntegerBounds) (ready : CanStart (ps ++ further) weight' costs bounds) (wide : length m.rows ≡ length costs)
      (compact : IsCompactDictionary ps weight m) (small : (j : ℕ) → j < length further → IsWithin (size_limit - 1) (combined_row m.denominator m.positions m.rows (get_or further j []))) where
    -- ---- it is compact
    widths' : (v : ℕ) → v < length longer.positions → length (get_or (all_rows all longer variables) v []) ≡ row_width (length m.rows) (position_of longer v)
    widths' v l = elim (which n (length further) v (omega (arith, l, now_many))) [
      | inl h ↦ ap length (old_row v h) ∙ compact.widths v h ∙ ap (row_width (length m.rows)) (sym (position v))
      | inr z ↦ ap (λ v. length (get_or (all_rows all longer variables) v [])) z.2 ∙ ap length (new_row z.0 z.1)
          ∙ length-numbers_from 0 (length m.rows) (combined d (get_or further z.0 []) m.positions m.rows) ∙ ap (row_width (length m.rows)) (sym (basic_behind v (omega (arith, z.2))))
    ]

    units' : (i k : ℕ) → i < length all → position_of longer (length m.rows + i) ≡ InColumn k
        → (j : ℕ) → combined d (get_or all i []) longer.positions m.rows j ≡ numerator_of d [] (InColumn k) j
    units' i k l e j = elim (cases_lt i (length ps)) [
      | inl h ↦ ap (λ a. combined d a longer.positions m.rows j) (get_or_append_left ps further [] i h)
          ∙ combined_longer d (get_or ps i []) m.positions more m.rows j enough ∙ compact.units i k h (sym (position (length m.rows + i)) ∙ e) j
      | inr h ↦ absurd (let no : InBasis ≡ InColumn k = sym (basic_behind (length m.rows + i) (omega (arith, h, many))) ∙ e in cc)
    ]

    within' : (v : ℕ) → IsWithin (size_limit - 1) (get_or (all_rows all longer variables) v [])
    within' v = elim (cases_lt v (n + length further)) [
      | inl l ↦ elim (which n (length further) v l) [
        | inl h ↦ subst (IsWithin (size_limit - 1)) (sym (old_row v h)) (compact.rows_within v)
        | inr z ↦ subst (IsWithin (size_limit - 1)) (sym (ap (λ v. get_or (all_rows all longer variables) v []) z.2 ∙ new_row z.0 z.1)) (small z.0 z.1)
      ]
      | inr l ↦ subst (IsWithin (size_limit - 1)) (sym (get_or_past (all_rows all longer variables) v [] (omega (arith, l, as_many all longer variables, now_many)))) (λ k. omega arith)
    ]

    compact_longer : IsCompactDictionary all weight' longer
    compact_longer = record {
      positive = compact.positive;
      denominator_small = compact.denominator_small;
      costs = compact.costs;
      variables = variables;
      full = λ i l. ready.rows_full i l ∙ sym wide;
      alone = λ v k e u q. compact.alone v k (sym (position v) ∙ e) u (sym (position u) ∙ q);
      within = λ v k e. compact.within v k (sym (position v) ∙ e);
      widths = widths';
      units = units';
      weights = ready.weights;
      light = ready.light;
      rows_within = within';
      costs_within = compact.costs_within;
    }

    -- ---- it has the same solutions
    narrow_at : (s : Position) (row : List ℤ) → length row ≡ row_width (length m.rows) s → length row ≤ length m.rows
    narrow_at InBasis row e = omega arith
    narrow_at (InColumn k) row e = omega arith

    column_row : (j : ℕ) → j < length m.rows → get_or (all_rows ps m many) j [] ≡ get_or m.rows j []
    column_row j l = row_of_column d ps m.positions m.rows j l

    narrow : (j : ℕ) → length (get_or m.rows j []) ≤ length m.rows
    narrow j = elim (cases_lt j (length m.rows)) [
      | inl l ↦ narrow_at (position_of m j) (get_or m.rows j []) (ap length (sym (column_row j l)) ∙ compact.widths j (omega (arith, l, many)))
      | inr l ↦ subst (λ (row : List ℤ). length row ≤ length m.rows) (sym (get_or_past m.rows j [] l)) (omega arith)
    ]

    program_row : (qs : List (List ℤ)) (i : ℕ) → i < length qs → get_or (map (map whole) qs) i [] ≡ map whole (get_or qs i [])
    program_row qs i l = get_or-map (map whole) qs i [] [] l

    further_full : (j : ℕ) → j < length further → length (get_or further j []) ≡ length m.rows
    further_full j l = ap length (sym (get_or-append-add ps further j [])) ∙ ready.rows_full (length ps + j) (omega (arith, l, length-append ps further)) ∙ sym wide

    row_at_end : (j : ℕ) → j < length further → get_or (map (map whole) all) (length ps + j) [] ≡ map whole (get_or further j [])
    row_at_end j l = program_row all (length ps + j) (omega (arith, l, length-append ps further)) ∙ ap (map whole) (get_or-append-add ps further j [])

    row_at_front : (i : ℕ) → i < length ps → get_or (map (map whole) all) i [] ≡ map whole (get_or ps i [])
    row_at_front i l = program_row all i (omega (arith, l, length-append ps further)) ∙ ap (map whole) (get_or_append_left ps further [] i l)

    program_there : (i : ℕ) → i < length all → i < length (map (map whole) all)
    program_there i l = omega (arith, l, length-map all (map whole))

    -- at a point
    module _ (x : List ℚ) (x_many : length x ≡ length longer.positions) where
      abbrev front : List ℚ
      front = take (length m.positions) x

      front_many : length front ≡ n
      front_many = length-take-le n x (omega (arith, x_many, now_many))

      entry_in_front : (i : ℕ) → i < n → entry x i ≡ entry front i
      entry_in_front i l = sym (get_or-take n x i zero_ℚ l)

      as_before : (row : List ℤ) → dot_value (coefficients d longer.positions row) x ≡ dot_value (coefficients d m.positions row) front
      as_before row =
          ap (λ row. dot_value row x) (coefficients_longer d m.positions (length further) row) ∙ dot-padded (length further) (coefficients d m.positions row) x
          ∙ dot_front (coefficients d m.positions row) n x (omega (arith, length-map m.positions (coefficient d row)))

      row_before : (v : ℕ) → v < n → position_of m v ≡ InBasis → dot_value (row_of (tableau all longer variables) v) x ≡ dot_value (row_of (tableau ps m many) v) front
      row_before v l e =
          ap (λ row. dot_value row x) (row_is all longer variables v (omega (arith, l, now_many)) InBasis (position v ∙ e) ∙ ap (coefficients d longer.positions) (old_row v l))
          ∙ as_before (get_or (all_rows ps m many) v []) ∙ sym (ap (λ row. dot_value row front) (row_is ps m many v l InBasis e))

      row_behind : (j : ℕ) → j < length further → dot_value (row_of (tableau all longer variables) (n + j)) x ≡ dot_value (coefficients d longer.positions (made (get_or further j []))) x
      row_behind j l =
          ap (λ row. dot_value row x) (row_is all longer variables (n + j) (omega (arith, l, now_many)) InBasis (basic_behind (n + j) (omega arith)) ∙ ap (coefficients d longer.positions) (new_row j l))

      solves_before : Solves (length longer.positions) (tableau all longer variables) x → Solves n (tableau ps m many) front
      solves_before s v l e =
          let q = was_basic ps m many v l e in
          sym (row_before v l q) ∙ s v (omega (arith, l, now_many)) (is_basic all longer variables v (omega (arith, l, now_many)) (position v ∙ q)) ∙ entry_in_front v l

      says : Solves n (tableau ps m many) front → (a : List ℤ) → length a ≡ length m.rows → dot_value (coefficients d longer.positions (made a)) x ≡ dot_value (map whole a) x
      says s a e =
          as_before (made a)
          ∙ row_says d compact.positive m.positions m.rows front enough front_many compact.alone compact.within narrow
          (λ j l q. sym (ap (λ row. dot_value row front) (row_is ps m many j (omega (arith, l, many)) InBasis q ∙ ap (coefficients d m.positions) (column_row j l)))
          ∙ s j (omega (arith, l, many)) (is_basic ps m many j (omega (arith, l, many)) q)) a e
          ∙ sym (dot_front (map whole a) n x (omega (arith, length-map a whole, e, enough)))

      -- the linear program's row on the front
      program_before : (i : ℕ) → i < length ps → dot_value (map whole (get_or ps i [])) x ≡ dot_value (map whole (get_or ps i [])) front
      program_before i l = dot_front (map whole (get_or ps i [])) n x (omega (arith, length-map (get_or ps i []) whole, compact.full i l, enough))

      program_entry : (i : ℕ) → i < length ps → entry x (length (map whole costs) + i) ≡ entry front (length (map whole costs) + i)
      program_entry i l = entry_in_front (length (map whole costs) + i) (omega (arith, l, length-map costs whole, wide, many))

      rows_before : SolvesRows (program_of all costs) x → SolvesRows (program_of ps costs) front
      rows_before s i l =
          let b : i < length ps = omega (arith, l, length-map ps (map whole)) in
          ap (λ row. dot_value row front) (program_row ps i b) ∙ sym (program_before i b) ∙ sym (ap (λ row. dot_value row x) (row_at_front i b))
          ∙ s i (program_there i (omega (arith, b, length-append ps further))) ∙ program_entry i b

      place : (j : ℕ) → length (map whole costs) + (length ps + j) ≡ n + j
      place j = omega (arith, length-map costs whole, wide, many)

      solves_after : Solves n (tableau ps m many) front → SolvesRows (program_of all costs) x → Solves (length longer.positions) (tableau all longer variables) x
      solves_after old s v l e = elim (which n (length further) v (omega (arith, l, now_many))) [
        | inl h ↦
            let q : position_of m v ≡ InBasis = sym (position v) ∙ was_basic all longer variables v l e in
            row_before v h q ∙ old v h (is_basic ps m many v h q) ∙ sym (entry_in_front v h)
        | inr z ↦ subst (λ v. dot_value (row_of (tableau all longer variables) v) x ≡ entry x v) (sym z.2)
            (row_behind z.0 z.1 ∙ says old (get_or further z.0 []) (further_full z.0 z.1) ∙ sym (ap (λ row. dot_value row x) (row_at_end z.0 z.1))
            ∙ s (length ps + z.0) (program_there (length ps + z.0) (omega (arith, z.1, length-append ps further))) ∙ ap (entry x) (place z.0))
      ]

      rows_after : Solves (length longer.positions) (tableau all longer variables) x → SolvesRows (program_of ps costs) front → SolvesRows (program_of all costs) x
      rows_after s old i l = elim (which (length ps) (length further) i (omega (arith, l, length-map all (map whole), length-append ps further))) [
        | inl h ↦ ap (λ row. dot_value row x) (row_at_front i h) ∙ program_before i h ∙ sym (ap (λ row. dot_value row front) (program_row ps i h))
            ∙ old i (omega (arith, h, length-map ps (map whole))) ∙ sym (program_entry i h)
        | inr z ↦ subst (λ i. dot_value (get_or (map (map whole) all) i []) x ≡ entry x (length (map whole costs) + i)) (sym z.2)
            (ap (λ row. dot_value row x) (row_at_end z.0 z.1) ∙ sym (says (solves_before s) (get_or further z.0 []) (further_full z.0 z.1)) ∙ sym (row_behind z.0 z.1)
            ∙ s (n + z.0) (omega (arith, z.1, now_many)) (is_basic all longer variables (n + z.0) (omega (arith, z.1, now_many)) (basic_behind (n + z.0) (omega arith))) ∙ ap (entry x) (sym (place z.0)))
      ]

    -- ---- all of it
    pub stored_longer : IsDictionaryOf (length m.positions) (program_of ps costs) (fraction_dictionary ps m) → IsStored (ps ++ further) weight' (program_of (ps ++ further) costs) longer
    stored_longer h = record {
      compact = compact_longer;
      dictionary = record {
        count = count all longer variables;
        canonical = canonical all longer variables;
        solutions = record {
          to = λ x l s. solves_after x l (h.solutions.to (front x l) (front_many x l) (rows_before x l s)) s;
          back = λ x l s. rows_after x l s (h.solutions.back (front x l) (front_many x l) (solves_before x l s));
        };
        objective = λ x l s.
            as_before x l m.reduced_costs ∙ h.objective (front x l) (front_many x l) (solves_before x l s)
            ∙ sym (dot_front (map whole costs) n x (omega (arith, length-map costs whole, wide, enough)));
      };
    }
