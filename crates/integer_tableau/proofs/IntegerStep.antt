-- A step by a stored dictionary is the pivot, on whole numbers.
use Rattle.std.proofs.Common.{◌≡◌, ◌≢◌, ℕ, ◌+◌, ◌*◌, ◌-◌, ◌<◌, ◌≤◌, ◌^◌, arith, refl, ap, sym, ◌∙◌, subst, Bool, false, Some, None, List, [], length, get_or, set, map, inl, inr}
use Rattle.std.specs.Prelude.{ℤ, pos, nat_abs}
use Rattle.std.specs.Option.{option_and_then, option_map}
use Rattle.std.proofs.lemmas.Bool.{cases_eq, cases_lt}
use Rattle.std.proofs.lemmas.List.{same_lists, get_or_default, get_or_past, get_or-map, get_or-set_other, get_or-set_same, length-map, length-set, map-set}
use Rattle.fraction.specs.Rational.{ℚ, frac, whole}
use Rattle.tableau.specs.Leaving.{unbounded, violated_bound, violation}
use Rattle.tableau.specs.LinearProgram.{LinearProgram}
use Rattle.tableau.specs.Pivot.{computed_values, pivoted, status_after}
use Rattle.tableau.specs.Place.{IsPivotThere}
use Rattle.tableau.specs.Tableau.{HasSize, Tableau, bounds_of, status_of, value_of}
use Rattle.tableau.specs.declared.bounds.Direction.{Direction}
use Rattle.tableau.specs.declared.status.BasisStatus.{BasisStatus}
use Rattle.tableau.specs.declared.status.BasisStatus.TheVariants.{Basic}
use Rattle.integer_tableau.proofs.AllRows.{get_or-rows_of, length-rows_of}
use Rattle.integer_tableau.proofs.BoundedValues.{exchanged_bounded}
use Rattle.integer_tableau.proofs.ExactPivots.{computed_each, status_after_is}
use Rattle.integer_tableau.proofs.Expanded.{bounded_total, row_of_column, row_of_row, row_value, rows_many, value_of_column, value_of_row, values_many, which}
use Rattle.integer_tableau.proofs.Starting.{statuses_long}
use Rattle.integer_tableau.proofs.SmallTimes.{coefficients_over, row_over}
use Rattle.integer_tableau.proofs.Statuses.{basic_position, basic_status, get_or-statuses, other_status, same_status}
use Rattle.integer_tableau.proofs.Sums.{value_fits, value_is}
use Rattle.integer_tableau.proofs.ToFractions.{bounds_many, costs_many, nonbasic_values_many, statuses_many, values_many as all_values_many, rows_many as all_rows_many}
use Rattle.integer_tableau.specs.Combined.{IsCompact, bound_size, combined_row, expanded, row_if_basic, total_bound_size}
use Rattle.integer_tableau.specs.Consistent.{IsConsistent, row_width}
use Rattle.integer_tableau.specs.IntegerTableau.{IntegerTableau, bound_status, fraction_bounds, row_of_position, rows_of, status, statuses_of, tableau_of, values_of}
use Rattle.integer_tableau.specs.Numbers.{number_at, total_size}
use Rattle.integer_tableau.specs.Pivot.{is_upper}
use Rattle.integer_tableau.specs.Range.{size_limit}
use Rattle.integer_tableau.specs.Positions.{sum_over}
use Rattle.integer_tableau.specs.declared.integer_bounds.IntegerBounds.{IntegerBounds}
use Rattle.integer_tableau.specs.declared.position.Position.TheVariants.{InBasis}
use Rattle.integer_tableau.specs.Dictionary.{HasExchangedBasis, HasSameMatrix, IsDictionaryOf, exchanged_to, pivoted_to}
use Rattle.integer_tableau.specs.IntegerDictionary.{IntegerDictionary, IsBehind, IsCompactDictionary, IsStored, dictionary_of, fraction_dictionary, position_of, stepped}
use Rattle.integer_tableau.specs.Lemmas.NotCramped.{HasSmallRows, elimination_there, over_none}
use Rattle.integer_tableau.specs.SmallDictionary.{AreOver, HasSmallDictionary}
use Rattle.integer_tableau.proofs.PivotComes.{stored_step}

-- what a tableau that keeps rows of columns holds beside what its dictionary does
pub record IsCompactSolution (reach : ℕ) (t : IntegerTableau) : Type 0 where
  pub bounds : length t.bounds ≡ length t.positions
  pub at_upper : length t.at_upper ≡ length t.positions
  pub nonbasic_values : length t.nonbasic_values ≡ length t.positions
  pub values : length t.values ≡ length t.rows
  -- the value of a basic column is the sum over its row
  pub exact : (j : ℕ) → j < length t.rows → get_or t.positions j InBasis ≡ InBasis → number_at t.values j ≡ sum_over t.positions (get_or t.rows j []) t.nonbasic_values
  pub reached : (j : ℕ) → j < length t.rows → bound_size (get_or t.bounds j (record { lower = None; upper = None })) ≤ reach
  pub near : reach * t.denominator < 2 ^ 63
  pub bounded : (v : ℕ) → v < length t.positions → nat_abs (number_at t.nonbasic_values v) ≤ bound_size (get_or t.bounds v (record { lower = None; upper = None }))
  pub room : total_bound_size t.bounds < size_limit

-- ---- the two make a tableau
module _ (ps : List (List ℤ)) (weight reach : ℕ) (t : IntegerTableau) (m : IsCompactDictionary ps weight (dictionary_of t)) (k : IsCompactSolution reach t) where
  abbrev full : IntegerTableau
  full = expanded ps t

  total : total_size t.nonbasic_values < size_limit
  total = omega (arith, k.room, bounded_total t.bounds t.nonbasic_values (k.nonbasic_values ∙ sym k.bounds) (λ v l. k.bounded v (omega (arith, l, k.bounds))))

  column_width : (j : ℕ) → j < length t.rows → length (get_or t.rows j []) ≡ row_width (length t.rows) (get_or t.positions j InBasis)
  column_width j l = ap length (sym (row_of_column t.denominator ps t.positions t.rows j l)) ∙ m.widths j (omega (arith, l, m.variables))

  row_exact : (i : ℕ) → i < length ps → get_or t.positions (length t.rows + i) InBasis ≡ InBasis
      → number_at full.values (length t.rows + i) ≡ sum_over t.positions (get_or full.rows (length t.rows + i) []) t.nonbasic_values
  row_exact i l q =
      ap (λ n. number_at full.values (n + i)) (sym k.values)
      ∙ value_of_row t.denominator ps t.positions t.nonbasic_values t.values i l
      ∙ row_value t.denominator t.positions t.rows t.nonbasic_values t.values (omega (arith, m.variables)) k.nonbasic_values k.values m.alone m.within column_width k.exact (get_or ps i []) (m.full i l)
      ∙ ap (λ x. sum_over t.positions x t.nonbasic_values)
      (sym (row_of_row t.denominator ps t.positions t.rows m.variables i l ∙ ap (λ s. row_if_basic s (combined_row t.denominator t.positions t.rows (get_or ps i []))) q))

  exact_all : (v : ℕ) → v < length t.positions → get_or t.positions v InBasis ≡ InBasis → number_at full.values v ≡ sum_over t.positions (get_or full.rows v []) t.nonbasic_values
  exact_all v l q = elim (which (length t.rows) (length ps) v (omega (arith, l, m.variables))) [
    | inl h ↦
        value_of_column t.denominator ps t.positions t.nonbasic_values t.values v (omega (arith, h, k.values)) ∙ k.exact v h q
        ∙ ap (λ x. sum_over t.positions x t.nonbasic_values) (sym (row_of_column t.denominator ps t.positions t.rows v h))
    | inr z ↦ subst (λ v. number_at full.values v ≡ sum_over t.positions (get_or full.rows v []) t.nonbasic_values) (sym z.2)
        (row_exact z.0 z.1 (ap (λ v. get_or t.positions v InBasis) (sym z.2) ∙ q))
  ]

  consistent : IsConsistent full
  consistent = record {
    positive = m.positive;
    bounds = k.bounds;
    at_upper = k.at_upper;
    nonbasic_values = k.nonbasic_values;
    rows = rows_many t.denominator ps t.positions t.rows m.variables ∙ sym m.variables;
    values = values_many t.denominator ps t.positions t.nonbasic_values t.values ∙ ap (λ n. n + length ps) k.values ∙ sym m.variables;
    alone = m.alone;
    within = λ v j q. omega (arith, m.within v j q, m.costs);
    widths = λ v l. m.widths v l ∙ ap (λ n. row_width n (get_or t.positions v InBasis)) (sym m.costs);
    exact = exact_all;
    fits = λ v l q. value_fits (get_or full.rows v []) t.positions t.nonbasic_values (number_at full.values v) (m.rows_within v) total (exact_all v l q);
    small = total;
    denominator_small = m.denominator_small;
    rows_within = m.rows_within;
    costs_within = m.costs_within;
  }

  pub compact_from : IsCompact ps weight reach t
  compact_from = record {
    consistent = consistent;
    costs = m.costs;
    values = k.values;
    variables = m.variables;
    full = m.full;
    units = m.units;
    weights = m.weights;
    light = m.light;
    reached = k.reached;
    near = k.near;
    bounded = k.bounded;
    room = k.room;
  }

-- and are made from one
pub dictionary_from : (ps : List (List ℤ)) (weight reach : ℕ) (t : IntegerTableau) → IsCompact ps weight reach t → IsCompactDictionary ps weight (dictionary_of t)
dictionary_from ps weight reach t h = record {
  positive = h.consistent.positive;
  denominator_small = h.consistent.denominator_small;
  costs = h.costs;
  variables = h.variables;
  full = h.full;
  alone = h.consistent.alone;
  within = λ v k q. omega (arith, h.consistent.within v k q, h.costs);
  widths = λ v l. h.consistent.widths v l ∙ ap (λ n. row_width n (get_or t.positions v InBasis)) h.costs;
  units = h.units;
  weights = h.weights;
  light = h.light;
  rows_within = h.consistent.rows_within;
  costs_within = h.consistent.costs_within;
}

-- ---- the fractions are small
pub small_rows : (d : ℕ) (t : Tableau) → HasSmallDictionary d t → HasSmallRows (λ i. d) d t
small_rows d t h = record { positive = λ i. (h.positive, h.small); cost_positive = (h.positive, h.small); rows = h.rows; costs = h.costs }

pub small_dictionary : (columns : ℕ) (numbers : List ℕ) (t : IntegerTableau) → IsConsistent t → HasSmallDictionary t.denominator (tableau_of columns numbers t)
small_dictionary columns numbers t h = record {
  positive = h.positive;
  small = h.denominator_small;
  rows = λ i. elim (cases_lt i (length t.positions)) [
    | inl l ↦ subst (AreOver t.denominator) (sym (get_or-rows_of (row_of_position t.denominator t.positions) t.positions t.rows i h.rows l))
        (λ j. row_over (size_limit - 1) t.denominator 1 t.positions (get_or t.positions i InBasis) (get_or t.rows i []) h.positive (omega arith) (λ e. h.rows_within i) j)
    | inr l ↦ subst (AreOver t.denominator)
        (sym (get_or_past (rows_of (row_of_position t.denominator t.positions) t.positions t.rows) i [] (omega (arith, l, length-rows_of (row_of_position t.denominator t.positions) t.positions t.rows h.rows))))
        (over_none t.denominator h.positive)
  ];
  costs = λ j. coefficients_over (size_limit - 1) t.denominator 1 t.reduced_costs t.positions h.positive (omega arith) h.costs_within j;
}

-- ---- the basis
module _ (ps : List (List ℤ)) (t : IntegerTableau) (m : IntegerDictionary) (numbers : List ℕ) (r c : ℕ) (cons : IsConsistent (expanded ps t)) (behind : IsBehind r c (dictionary_of t) m) where
  abbrev lower : List Bool
  lower = map (λ s. false) m.positions

  -- the position at which the tableau has a variable that is basic, and the other way
  had : (v : ℕ) → v < length t.positions → status_of (tableau_of (length t.rows) numbers (expanded ps t)) v ≡ Basic → get_or t.positions v InBasis ≡ InBasis
  had v l e = basic_position (get_or t.positions v InBasis) (get_or t.at_upper v false) (sym (get_or-statuses t.positions t.at_upper v cons.at_upper l) ∙ e)

  basic : (v : ℕ) → v < length t.positions → get_or t.positions v InBasis ≡ InBasis → status_of (tableau_of (length t.rows) numbers (expanded ps t)) v ≡ Basic
  basic v l q = get_or-statuses t.positions t.at_upper v cons.at_upper l ∙ basic_status (get_or t.positions v InBasis) (get_or t.at_upper v false) q

  -- so of the dictionary
  pub status_in : (v : ℕ) → v < length t.positions → status_of (fraction_dictionary ps m) v ≡ status (position_of m v) (get_or lower v false)
  status_in v l = get_or-statuses m.positions lower v (length-map m.positions (λ s. false)) (omega (arith, l, behind.positions.count))

  has : (v : ℕ) → v < length t.positions → status_of (fraction_dictionary ps m) v ≡ Basic → position_of m v ≡ InBasis
  has v l e = basic_position (position_of m v) (get_or lower v false) (sym (status_in v l) ∙ e)

  pub now_basic : (v : ℕ) → v < length t.positions → position_of m v ≡ InBasis → status_of (fraction_dictionary ps m) v ≡ Basic
  now_basic v l q = status_in v l ∙ basic_status (position_of m v) (get_or lower v false) q

  pub exchanged_basis : HasExchangedBasis (length t.positions) r c (tableau_of (length t.rows) numbers (expanded ps t)) (fraction_dictionary ps m)
  exchanged_basis = record {
    left = λ e. behind.positions.left (has r behind.positions.leaving_there e);
    entered = now_basic c behind.positions.entering_there behind.positions.entered;
    to = λ v l x y e. now_basic v l (behind.positions.to v l x y (had v l e));
    back = λ v l x y e. basic v l (behind.positions.back v l x y (has v l e));
  }

-- ---- the step
module _ (ps : List (List ℤ)) (weight reach : ℕ) (t : IntegerTableau) (compact : IsCompact ps weight reach t) (numbers : List ℕ) (p q : LinearProgram) (same : HasSameMatrix p q)
    (m : IntegerDictionary) (stored : IsStored ps weight q m) (r c : ℕ) (w : Direction) (b : ℤ) (values : List ℤ)
    (h : IsDictionaryOf (length t.positions) p (tableau_of (length t.rows) numbers (expanded ps t)))
    (r_there : r < length t.positions) (c_there : c < length t.positions) (there : IsPivotThere (tableau_of (length t.rows) numbers (expanded ps t)) r c)
    (direction : violation (bounds_of (tableau_of (length t.rows) numbers (expanded ps t)) r) (value_of (tableau_of (length t.rows) numbers (expanded ps t)) r) ≡ Some w)
    (bound : violated_bound w (bounds_of (tableau_of (length t.rows) numbers (expanded ps t)) r) ≡ whole b)
    (behind : IsBehind r c (dictionary_of t) m)
    (values_there : length values ≡ length m.rows)
    (exact : (j : ℕ) → j < length m.rows → position_of m j ≡ InBasis → number_at values j ≡ sum_over m.positions (get_or m.rows j []) (set (set t.nonbasic_values r b) c (pos 0)))
    (near : reach * m.denominator < 2 ^ 63) where
  abbrev tt' : Tableau
  tt' = tableau_of (length t.rows) numbers (expanded ps t)

  abbrev mm : Tableau
  mm = fraction_dictionary ps m

  abbrev pub made : IntegerTableau
  made = stepped r c w b m values t

  cons : IsConsistent (expanded ps t)
  cons = compact.consistent

  pub size : HasSize (length t.positions) tt'
  size = record {
    bounds = bounds_many (length t.rows) numbers ps weight reach t tt' compact refl refl;
    statuses = statuses_many (length t.rows) numbers ps weight reach t tt' compact refl refl;
    nonbasic_values = nonbasic_values_many (length t.rows) numbers ps weight reach t tt' compact refl refl;
    rows = all_rows_many (length t.rows) numbers ps weight reach t tt' compact refl refl;
    reduced_costs = costs_many (length t.rows) numbers ps weight reach t tt' compact refl refl;
    values = all_values_many (length t.rows) numbers ps weight reach t tt' compact refl refl;
  }

  apart : r ≢ c
  apart e = there.entering (subst (λ v. status_of tt' v ≡ Basic) e there.leaving)

  was : (v : ℕ) → v < length t.positions → status_of tt' v ≡ status (get_or t.positions v InBasis) (get_or t.at_upper v false)
  was v l = get_or-statuses t.positions t.at_upper v cons.at_upper l

  -- the pivot of fractions comes to the dictionary's rows and reduced costs
  comes : pivoted r c tt' ≡ pivoted_to r c mm.rows mm.reduced_costs tt'
  comes =
      let v = elimination_there (λ i. t.denominator) t.denominator r c tt' (small_rows t.denominator tt' (small_dictionary (length t.rows) numbers (expanded ps t) cons)) (omega (arith, r_there, size.rows)) there.coefficient in
      stored_step (length t.positions) p q tt' mm v.0 r c same size h (subst (λ n. IsDictionaryOf n q mm) behind.positions.count stored.dictionary) r_there c_there there.leaving there.entering (exchanged_basis ps t m numbers r c cons behind) v.1

  -- ---- the solution after it
  statuses_are : set (set (statuses_of t.positions t.at_upper) r (status_after w)) c Basic ≡ statuses_of m.positions made.at_upper
  statuses_are = same_lists _ _ (many ∙ sym long) each
    where
      many : length (set (set (statuses_of t.positions t.at_upper) r (status_after w)) c Basic) ≡ length t.positions
      many = length-set (set (statuses_of t.positions t.at_upper) r (status_after w)) c Basic ∙ length-set (statuses_of t.positions t.at_upper) r (status_after w) ∙ statuses_long t.positions t.at_upper cons.at_upper

      upper_many : length made.at_upper ≡ length m.positions
      upper_many = length-set (set t.at_upper r (is_upper w)) c false ∙ length-set t.at_upper r (is_upper w) ∙ cons.at_upper ∙ sym behind.positions.count

      long : length (statuses_of m.positions made.at_upper) ≡ length t.positions
      long = statuses_long m.positions made.at_upper upper_many ∙ behind.positions.count

      now : (v : ℕ) → v < length t.positions → get_or (statuses_of m.positions made.at_upper) v Basic ≡ status (position_of m v) (get_or made.at_upper v false)
      now v l = get_or-statuses m.positions made.at_upper v upper_many (omega (arith, l, behind.positions.count))

      at_c : get_or (set (set (statuses_of t.positions t.at_upper) r (status_after w)) c Basic) c Basic ≡ get_or (statuses_of m.positions made.at_upper) c Basic
      at_c =
          get_or-set_same (set (statuses_of t.positions t.at_upper) r (status_after w)) c Basic Basic (omega (arith, c_there, length-set (statuses_of t.positions t.at_upper) r (status_after w), statuses_long t.positions t.at_upper cons.at_upper))
          ∙ sym (now c c_there ∙ basic_status (position_of m c) (get_or made.at_upper c false) behind.positions.entered)

      at_r : get_or (set (set (statuses_of t.positions t.at_upper) r (status_after w)) c Basic) r Basic ≡ get_or (statuses_of m.positions made.at_upper) r Basic
      at_r =
          get_or-set_other (set (statuses_of t.positions t.at_upper) r (status_after w)) c r Basic Basic apart
          ∙ get_or-set_same (statuses_of t.positions t.at_upper) r (status_after w) Basic (omega (arith, r_there, statuses_long t.positions t.at_upper cons.at_upper))
          ∙ status_after_is w
          ∙ sym (now r r_there ∙ other_status (position_of m r) (get_or made.at_upper r false) behind.positions.left
          ∙ ap bound_status (get_or-set_other (set t.at_upper r (is_upper w)) c r false false apart ∙ get_or-set_same t.at_upper r (is_upper w) false (omega (arith, r_there, cons.at_upper))))

      at_v : (v : ℕ) → v < length t.positions → v ≢ r → v ≢ c → get_or (set (set (statuses_of t.positions t.at_upper) r (status_after w)) c Basic) v Basic ≡ get_or (statuses_of m.positions made.at_upper) v Basic
      at_v v l x y =
          get_or-set_other (set (statuses_of t.positions t.at_upper) r (status_after w)) c v Basic Basic y
          ∙ get_or-set_other (statuses_of t.positions t.at_upper) r v (status_after w) Basic x
          ∙ was v l ∙ same_status (get_or t.positions v InBasis) (position_of m v) (get_or t.at_upper v false) (behind.positions.to v l x y) (behind.positions.back v l x y)
          ∙ ap (status (position_of m v)) (sym (get_or-set_other (set t.at_upper r (is_upper w)) c v false false y ∙ get_or-set_other t.at_upper r v (is_upper w) false x))
          ∙ sym (now v l)

      each_basic : (v : ℕ) → v < length t.positions → get_or (set (set (statuses_of t.positions t.at_upper) r (status_after w)) c Basic) v Basic ≡ get_or (statuses_of m.positions made.at_upper) v Basic
      each_basic v l = elim (cases_eq v c) [
        | inl e ↦ subst (λ v. get_or (set (set (statuses_of t.positions t.at_upper) r (status_after w)) c Basic) v Basic ≡ get_or (statuses_of m.positions made.at_upper) v Basic) (sym e) at_c
        | inr y ↦ elim (cases_eq v r) [
          | inl e ↦ subst (λ v. get_or (set (set (statuses_of t.positions t.at_upper) r (status_after w)) c Basic) v Basic ≡ get_or (statuses_of m.positions made.at_upper) v Basic) (sym e) at_r
          | inr x ↦ at_v v l x y
        ]
      ]

      each : (v : ℕ) (d : BasisStatus) → v < length (set (set (statuses_of t.positions t.at_upper) r (status_after w)) c Basic)
          → get_or (set (set (statuses_of t.positions t.at_upper) r (status_after w)) c Basic) v d ≡ get_or (statuses_of m.positions made.at_upper) v d
      each v d l =
          get_or_default _ v d Basic l ∙ each_basic v (omega (arith, l, many)) ∙ sym (get_or_default (statuses_of m.positions made.at_upper) v d Basic (omega (arith, l, many, long)))

  nonbasic_values_are : set (set (map whole t.nonbasic_values) r (violated_bound w (bounds_of tt' r))) c (whole (pos 0)) ≡ map whole made.nonbasic_values
  nonbasic_values_are =
      ap (λ x. set (set (map whole t.nonbasic_values) r x) c (whole (pos 0))) bound
      ∙ sym (map-set whole (set t.nonbasic_values r b) c (pos 0) ∙ ap (λ xs. set xs c (whole (pos 0))) (map-set whole t.nonbasic_values r b))

  -- ---- sizes
  abbrev none : IntegerBounds
  none = record { lower = None; upper = None }

  bound_is : violated_bound w (fraction_bounds (get_or t.bounds r none)) ≡ whole b
  bound_is = ap (violated_bound w) (sym (get_or-map fraction_bounds t.bounds r none unbounded (omega (arith, r_there, cons.bounds)))) ∙ bound

  xs_many : length t.nonbasic_values ≡ length t.positions
  xs_many = cons.nonbasic_values

  bounded : (v : ℕ) → v < length m.positions → nat_abs (number_at made.nonbasic_values v) ≤ bound_size (get_or t.bounds v none)
  bounded v l = exchanged_bounded t.bounds t.nonbasic_values r c w b (omega (arith, r_there, xs_many)) (omega (arith, c_there, xs_many)) apart bound_is
      (λ v l. compact.bounded v (omega (arith, l, xs_many))) v (omega (arith, l, behind.positions.count, xs_many))

  solution : IsCompactSolution reach made
  solution = record {
    bounds = cons.bounds ∙ sym behind.positions.count;
    at_upper = length-set (set t.at_upper r (is_upper w)) c false ∙ length-set t.at_upper r (is_upper w) ∙ cons.at_upper ∙ sym behind.positions.count;
    nonbasic_values = length-set (set t.nonbasic_values r b) c (pos 0) ∙ length-set t.nonbasic_values r b ∙ cons.nonbasic_values ∙ sym behind.positions.count;
    values = values_there;
    exact = exact;
    reached = λ j l. compact.reached j (omega (arith, l, behind.columns));
    near = near;
    bounded = bounded;
    room = compact.room;
  }

  pub made_compact : IsCompact ps weight reach made
  made_compact = compact_from ps weight reach made stored.compact solution

  after : IsConsistent (expanded ps made)
  after = made_compact.consistent

  values_are : computed_values (map whole made.nonbasic_values) (statuses_of m.positions made.at_upper) (map whole made.nonbasic_values) mm.rows ≡ Some (values_of m.denominator m.positions made.nonbasic_values (expanded ps made).values)
  values_are = computed_each (map whole made.nonbasic_values) m.denominator m.positions m.positions made.at_upper made.nonbasic_values (expanded ps made).rows (expanded ps made).values
      after.at_upper after.nonbasic_values after.rows after.values
      (λ v l e. value_is m.denominator (size_limit - 1) (get_or (expanded ps made).rows v []) m.positions made.nonbasic_values after.positive after.denominator_small (after.rows_within v) (omega (arith, after.small))
      ∙ ap (λ z. Some (frac z m.denominator)) (sym (after.exact v l e)))

  -- ---- the step is the pivot
  abbrev with_values : List ℚ → Tableau
  with_values vs = record tt' {
    statuses = statuses_of m.positions made.at_upper;
    nonbasic_values = map whole made.nonbasic_values;
    rows = mm.rows;
    reduced_costs = mm.reduced_costs;
    values = vs;
    pivots = t.pivots + 1;
  }

  pub step_is_pivot : pivoted r c tt' ≡ Some (tableau_of (length t.rows) numbers (expanded ps made))
  step_is_pivot =
      comes
      ∙ ap (option_and_then (λ w. exchanged_to r c mm.rows mm.reduced_costs w tt')) direction
      ∙ (λ i. option_map (λ values. record tt' { statuses = statuses_are i; nonbasic_values = nonbasic_values_are i; rows = mm.rows; reduced_costs = mm.reduced_costs; values = values; pivots = t.pivots + 1 })
      (computed_values (nonbasic_values_are i) (statuses_are i) (nonbasic_values_are i) mm.rows))
      ∙ ap (option_map with_values) values_are
