-- Where all numbers are whole and small and the tableau has a common denominator, its answer is there.
use Rattle.std.specs.Prelude.{pos, negsuc, All, IsSome, is_some, ◌&&◌, if◌then◌else◌}
use Rattle.std.proofs.Common.{◌≡◌, ℕ, zero, suc, ◌+◌, ◌*◌, ◌^◌, ◌<◌, ◌≤◌, arith, refl, ap, sym, ◌∙◌, subst, Bool, true, false, Some, List, [], ◌∷◌, length, get_or, drop, map}
use Rattle.std.specs.Option.{option_and_then, option_map}
use Rattle.std.specs.List.{list_all}
use Rattle.std.specs.Ordering.{int_eq}
use Rattle.std.proofs.lemmas.List.{length-map, length-append, length-drop, length-take-le}
use Rattle.std.proofs.lemmas.List.Elements.{All-nil, All-head, All-tail, All-take, All-drop, All-append, All-map, All-set, All-get_or}
use Rattle.fraction.specs.Rational.{ℚ, whole, ◌+ℚ◌, neg_ℚ}
use Rattle.fraction.specs.Bounds.{Within}
use Rattle.fraction.specs.Lemmas.Rational.{zero-+ℚ}
use Rattle.problem_box.specs.declared.span.Span.{Span}
use Rattle.problem.specs.Limited.{IsModestSpan}
use Rattle.problem.specs.declared.row.Row.{Row}
use Rattle.problem.specs.Linear.{Terms, Multipliers, coefficient}
use Rattle.problem.specs.Problem.{Problem}
use Rattle.problem.specs.Limits.{most_columns, most_rows}
use Rattle.cert_rows.specs.Lines.{CertLine, row_at}
use Rattle.cert_rows.specs.Combination.{combined_terms}
use Rattle.derivation_book.specs.declared.cut.Cut.{Cut}
use Rattle.derivation_book.specs.Known.{known_lines}
use Rattle.derivation_book.specs.Sums.{Sums, sums_of, side_at, combined_side, combined_columns}
use Rattle.derivation_book.specs.Price.{with_columns, price}
use Rattle.derivation_book.specs.Lemmas.Exact.{columns_exact}
use Rattle.tableau.specs.declared.bounds.Direction.{Direction}
use Rattle.tableau.specs.declared.bounds.Direction.TheVariants.{Rise, Fall}
use Rattle.tableau.specs.declared.place.Place.{Place}
use Rattle.tableau.specs.declared.place.Place.TheVariants.{Done, NoColumn, Cramped as CrampedRatio}
use Rattle.tableau.specs.Elimination.{zero_ℚ, entry}
use Rattle.tableau.specs.LinearProgram.{coefficients_from}
use Rattle.tableau.specs.Tableau.{Tableau, row_of}
use Rattle.tableau.specs.Multipliers.{numbered, point_of, mult_of_cost, row_multipliers, mult_of_row}
use Rattle.tableau.specs.Invariants.{IsTableauOf}
use Rattle.tableau.specs.Lemmas.Started.{no_row, length-coefficients}
use Rattle.tableau.specs.Lemmas.Places.{IsNoColumn, no_column_is}
use Rattle.tableau.specs.Lemmas.Balanced.{IsBalanced}
use Rattle.tableau.specs.Lemmas.Refuting.{refuting_bounds}
use Rattle.tableau.specs.Lemmas.StartFits.{zero_within}
use Rattle.dual_simplex.specs.Relaxation.{rational_value}
use Rattle.dual_simplex.specs.PointSums.{checked_sum, sums_fit}
use Rattle.dual_simplex.specs.Answers.{linear_program}
use Rattle.dual_simplex.specs.Ends.{IsEnd, IsAnswerThere, IsSmallEnd}
use Rattle.dual_simplex.specs.Sizes.{IsIntegerTo, HasIntegers, IsIntegerRow, IsIntegerRelaxation, most_small_cuts, largest_integer}
use Rattle.dual_simplex.specs.Lemmas.RationalValues.{rational_value-dot}
use Rattle.dual_simplex.specs.Lemmas.Numbers.{length-numbers, row_there, all_numbered, relaxation_rows}
use Rattle.dual_simplex.specs.Lemmas.Prices.{mult_from, reduced_is_factor}
use Rattle.dual_simplex.specs.Lemmas.Optimum.{point_cost}
use Rattle.dual_simplex.specs.Lemmas.TrueAnswers.{rows_and_cuts, numbers, size, variables_are, balanced_value, cost_multipliers, point_is, costs_balanced, row_multipliers_are, row_balanced}
use Rattle.dual_simplex.proofs.CommonDenominator.{IsThereWithin, Multiplies, whole_within, neg_within, integer_within, integer_coefficient, integer_coefficients, sum_there, columns_there, dot_there, with_columns_there}
use Rattle.integer_tableau.specs.Range.{size_limit}
use Rattle.problem.specs.Directions.{aim}

abbrev row_of_cut : Cut → Row
row_of_cut c = c.row

-- there are no more multipliers than numbers
length-numbered : (is : List ℕ) (ms : List ℚ) → length (numbered is ms) ≤ length is
length-numbered [] ms = omega arith
length-numbered (i ∷ is) [] = omega arith
length-numbered (i ∷ is) (m ∷ ms) = at (int_eq m.num (pos 0)) (length-numbered is ms)
  where
    at : (b : Bool) → length (numbered is ms) ≤ length is → length (if b then numbered is ms else (i, m) ∷ numbered is ms) ≤ length (i ∷ is)
    at true l = omega arith
    at false l = omega arith

-- The sizes over the denominator of a product, and of a sum of a product for each row and cut. A price adds one for each column to that: 17,000
-- products of 2^112, and 2^127 is 32,768 of them.
abbrev product : ℕ
product = size_limit * largest_integer

abbrev sum : ℕ
sum = (most_rows + most_small_cuts) * (size_limit * largest_integer)

module _ (p : Problem) (cs : List Cut) (box : List Span) (columns : length box ≡ length p.spans) (integers : IsIntegerRelaxation p cs) (d : ℕ) (positive : 0 < d) (bounded : d < size_limit) where
  abbrev rows : List Row
  rows = rows_and_cuts p cs box

  abbrev ls : List CertLine
  ls = known_lines p cs

  below : d < 2 ^ 127
  below = omega arith

  all_rows : All IsIntegerRow rows
  all_rows = All-append IsIntegerRow p.rows (map row_of_cut cs) integers.rows (All-map IsIntegerRow row_of_cut cs integers.cuts)

  row_count : length rows ≡ length p.rows + length cs
  row_count = length-append p.rows (map row_of_cut cs) ∙ ap (λ k. length p.rows + k) (length-map cs row_of_cut)

  number_count : length (numbers p cs box) ≡ length rows
  number_count = length-numbers ls (numbers p cs box) rows (relaxation_rows p cs)

  -- ---- prices
  module _ (modest : All IsModestSpan box) (target : Terms) (integer_target : HasIntegers target) (g u : List ℚ) (b : IsBalanced rows box (aim p) target g u) (within : All (Within d size_limit) g) where
    abbrev mult : Multipliers
    mult = mult_from (length box) (numbers p cs box) g

    -- each multiplier is small, and so are the numbers of its line
    multiplied : (f : Row → ℚ) → ((r : Row) → IsIntegerRow r → IsIntegerTo largest_integer (f r)) → All (Multiplies d size_limit largest_integer product positive below refl (λ i. f (row_at ls i))) mult
    multiplied f h = all_numbered (Multiplies d size_limit largest_integer product positive below refl (λ i. f (row_at ls i))) (numbers p cs box) (drop (length box) g) (λ k l.
        let i : k < length rows = omega (arith, number_count) in (
          All-get_or (Within d size_limit) (drop (length box) g) k zero_ℚ (omega (arith, length-drop (length box) g, b.factors)) (All-drop (Within d size_limit) (length box) g within),
          h _ (subst IsIntegerRow (sym (row_there ls (numbers p cs box) rows k (relaxation_rows p cs) l).1) (All-get_or IsIntegerRow rows k no_row i all_rows)),
        ))

    few : length mult ≤ most_rows + most_small_cuts
    few = omega (arith, length-numbered (numbers p cs box) (drop (length box) g), number_count, row_count, integers.few_rows)

    side : IsThereWithin d (0 + length mult * product) (combined_side ls mult)
    side = sum_there d size_limit largest_integer product positive below refl (side_at ls) 0 zero_ℚ mult (omega (arith, few)) (zero_within d 0) (multiplied (λ r. r.rhs) (λ r h. h.rhs))

    coefficients : (xs : List ℚ) × (combined_columns ls mult 0 (length p.spans) ≡ Some xs) × All (Within d sum) xs × (length xs ≡ length p.spans)
    coefficients = columns_there d size_limit largest_integer product positive below refl ls sum mult 0 (length p.spans) (omega (arith, few)) (omega arith)
        (λ j. multiplied (λ r. coefficient r.terms j) (λ r h. integer_coefficient r.terms j h.terms))

    -- what is left of a column is its own multiplier
    left : (i : ℕ) → i < length coefficients.0 → Within d size_limit (coefficient target (0 + i) +ℚ neg_ℚ (entry coefficients.0 i))
    left i l =
        let k : i < length box = omega (arith, columns, coefficients.3) in
        let same : coefficient target (0 + i) +ℚ neg_ℚ (entry coefficients.0 i) ≡ entry g i =
        ap (λ x. coefficient target (0 + i) +ℚ neg_ℚ x) (columns_exact ls mult 0 (length p.spans) coefficients.0 coefficients.1 i l)
        ∙ ap (λ j. coefficient target j +ℚ neg_ℚ (coefficient (combined_terms ls mult) j)) (let e : 0 + i ≡ i = omega arith in e)
        ∙ reduced_is_factor ls (numbers p cs box) rows box (aim p) target g u (relaxation_rows p cs) b i k in
        subst (Within d size_limit) (sym same) (All-get_or (Within d size_limit) g i zero_ℚ (omega (arith, b.factors)) within)

    pub price_there : (v : ℚ) × (price p cs box target mult ≡ Some v)
    price_there =
        let total = with_columns_there d size_limit largest_integer product positive below refl (largest_integer * d) sum target (omega arith) (omega arith)
        (λ j. integer_within d largest_integer (coefficient target j) (integer_coefficient target j integer_target))
        (0 + length mult * product) side.it 0 coefficients.0 box
        (omega (arith, few, coefficients.3, integers.few_columns)) side.within coefficients.2 left modest in (
          total.it,
          ap (option_and_then (λ (q : Sums). with_columns q.side target 0 q.coefficients box))
              (ap (option_and_then (λ xs. option_map (sums_of xs) (combined_side ls mult))) coefficients.1 ∙ ap (option_map (sums_of coefficients.0)) side.is)
              ∙ total.is,
        )

  -- ---- a tableau
  module _ (t : Tableau) (h : IsTableauOf (size p cs box) (linear_program p cs box) t) where
    -- the price of the multipliers of the costs is the objective at the point
    pub cost_price : All IsModestSpan box → All (Within d size_limit) t.reduced_costs → price p cs box (aim p) (mult_of_cost t) ≡ Some (rational_value (aim p) (point_of t))
    cost_price modest within =
        let w = price_there modest (aim p) integers.objective t.reduced_costs t.nonbasic_values (costs_balanced p cs box t h) within in
        let value : w.0 ≡ rational_value (aim p) (point_of t) =
        balanced_value p cs box (aim p) t.reduced_costs t.nonbasic_values (costs_balanced p cs box t h) columns w.0 w.1
        ∙ sym (point_cost (aim p) rows (numbers p cs box) box t h) ∙ ap (rational_value (aim p)) (sym (point_is p cs box t h)) in
        ap (price p cs box (aim p)) (cost_multipliers p cs box t h) ∙ w.1 ∙ ap Some value

    -- the multipliers of a row are small
    row_within : (w : Direction) (r : ℕ) (row : List ℚ) → All (Within d size_limit) row → All (Within d size_limit) (row_multipliers w r row)
    row_within Rise r row k =
        All-set (Within d size_limit) (map neg_ℚ row) r (whole (pos 1)) (whole_within d size_limit (pos 1) (omega arith))
        (All-map (Within d size_limit) neg_ℚ row (λ i x l. neg_within d size_limit _ positive (k i x l)))
    row_within Fall r row k = All-set (Within d size_limit) row r (whole (negsuc 0)) (whole_within d size_limit (negsuc 0) (omega arith)) k

    pub row_price : All IsModestSpan box → (r : ℕ) → (k : IsNoColumn (size p cs box) t r) → All (Within d size_limit) (row_of t r) → (v : ℚ) × (price p cs box [] (mult_of_row t r) ≡ Some v)
    row_price modest r k within =
        let w = price_there modest [] (record { rising = tt; coefficients = All-nil (λ (t : ℕ × ℚ). IsIntegerTo largest_integer t.1) }) (row_multipliers k.direction r (row_of t r)) (refuting_bounds t r k.direction)
        (row_balanced p cs box t h r k) (row_within k.direction r (row_of t r) within) in
        (w.0, ap (price p cs box []) (row_multipliers_are p cs box t h r k) ∙ w.1)

    -- ---- sums at the point
    module _ (within : All (Within d size_limit) t.values) where
      in_point : All (Within d size_limit) (point_of t)
      in_point = All-take (Within d size_limit) t.columns t.values within

      few_numbers : length (point_of t) ≤ most_columns
      few_numbers = omega (arith, ap length (point_is p cs box t h), length-take-le (length box) t.values (omega (arith, h.size.values)), columns, integers.few_columns)

      pub sum_at_point : (ts : Terms) → HasIntegers ts → checked_sum ts (point_of t) ≡ Some (rational_value ts (point_of t))
      sum_at_point ts k =
          dot_there d size_limit largest_integer product positive below refl 0 zero_ℚ (coefficients_from 0 (length (point_of t)) ts) (point_of t)
          (omega (arith, few_numbers, length-coefficients 0 (length (point_of t)) ts)) (zero_within d 0) (integer_coefficients ts 0 (length (point_of t)) k) in_point
          ∙ ap Some (zero-+ℚ _ ∙ sym (rational_value-dot ts (point_of t)))

      there : (ts : Terms) → HasIntegers ts → is_some (checked_sum ts (point_of t)) ≡ true
      there ts k = ap is_some (sum_at_point ts k)

      rows_there : (rs : List Row) → All IsIntegerRow rs → list_all (λ (r : Row). is_some (checked_sum r.terms (point_of t))) rs ≡ true
      rows_there [] k = refl
      rows_there (r ∷ rs) k = λ i. there r.terms (All-head IsIntegerRow r rs k).terms i && rows_there rs (All-tail IsIntegerRow r rs k) i

      cuts_there : (ds : List Cut) → All (λ (c : Cut). IsIntegerRow c.row) ds → list_all (λ (c : Cut). is_some (checked_sum c.row.terms (point_of t))) ds ≡ true
      cuts_there [] k = refl
      cuts_there (c ∷ ds) k = λ i. there c.row.terms (All-head (λ (c : Cut). IsIntegerRow c.row) c ds k).terms i && cuts_there ds (All-tail (λ (c : Cut). IsIntegerRow c.row) c ds k) i

      pub sums_there : sums_fit p cs (point_of t) ≡ true
      sums_there = λ i. there (aim p) integers.objective i && rows_there p.rows integers.rows i && cuts_there cs integers.cuts i

  -- ---- the answer
  pub answer_there : All IsModestSpan box → (t : Tableau) (q : Place) → IsEnd p cs box q t → All (Within d size_limit) t.reduced_costs → All (Within d size_limit) t.values
      → ((r : ℕ) → All (Within d size_limit) (row_of t r)) → IsAnswerThere p cs box q t
  answer_there modest t q end costs values row = record {
    optimum = λ e.
        let h = tableau_at (λ f. let g : Done ≡ CrampedRatio = sym e ∙ f in cc) in
        record { sums = sums_there t h values; priced = cost_price t h modest costs ∙ sym (sum_at_point t h values (aim p) integers.objective) };
    refuted = λ r e.
        let uncramped : q ≡ CrampedRatio → ⊥ = λ f. let g : NoColumn r ≡ CrampedRatio = sym e ∙ f in cc in
        let h = tableau_at uncramped in
        let w = row_price t h modest r (no_column_is (size p cs box) t r h.size (sym (end.place uncramped) ∙ e)) (row r) in
        subst IsSome (sym w.1) refl;
  }
    where
      tableau_at : (q ≡ CrampedRatio → ⊥) → IsTableauOf (size p cs box) (linear_program p cs box) t
      tableau_at uncramped = subst (λ n. IsTableauOf n (linear_program p cs box) t) (variables_are p cs box) (end.tableau uncramped)

-- so it is where the box and the tableau are small
pub small_is_there : (p : Problem) (cs : List Cut) (box : List Span) → length box ≡ length p.spans → IsIntegerRelaxation p cs → (t : Tableau) (q : Place) → IsEnd p cs box q t → IsSmallEnd box t
    → IsAnswerThere p cs box q t
small_is_there p cs box columns integers t q end s =
    let h = s.over_denominator in
    answer_there p cs box columns integers s.denominator h.positive h.small s.modest t q end h.reduced_costs h.values (λ r. row t.rows r h.rows)
  where
    row : (rs : List (List ℚ)) (r : ℕ) → All (All (Within s.denominator size_limit)) rs → All (Within s.denominator size_limit) (get_or rs r [])
    row [] r h = All-nil (Within s.denominator size_limit)
    row (x ∷ rs) zero h = All-head (All (Within s.denominator size_limit)) x rs h
    row (x ∷ rs) (suc r) h = row rs r (All-tail (All (Within s.denominator size_limit)) x rs h)
