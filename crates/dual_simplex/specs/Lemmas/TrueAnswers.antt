-- Lemmas: what is answered holds.
use Rattle.std.specs.Prelude.{◌≤ℤ◌, All, IfSome, cond}
use Rattle.std.proofs.Common.{◌≡◌, ℕ, ◌+◌, refl, ap, sym, ◌∙◌, subst, Bool, true, false, Option, Some, None, List, [], ◌∷◌, ◌++◌, length, take, drop, map}
use Rattle.std.specs.Option.{option_map}
use Rattle.std.proofs.lemmas.List.{length-map}
use Rattle.std.proofs.lemmas.List.Elements.{All-nil, All-cons, All-head, All-tail, All-append, All-map, All-get_or}
use Rattle.fraction.specs.Rational.{ℚ}
use Rattle.fraction.specs.Order.{◌<ℚ◌}
use Rattle.fraction.specs.Lemmas.Order.{along, not_both}
use Rattle.fraction.specs.Lemmas.Bounds.{dot_value}
use Rattle.problem_box.specs.declared.span.Span.{Span}
use Rattle.problem.specs.declared.row.Row.{Row}
use Rattle.problem.specs.Linear.{Terms, Multipliers}
use Rattle.problem.specs.Rows.{Rows}
use Rattle.problem.specs.Rising.{AreRising, AreNonzero}
use Rattle.problem.specs.Problem.{Problem}
use Rattle.derivation_book.specs.declared.cut.Cut.{Cut}
use Rattle.derivation_book.specs.Known.{known_lines}
use Rattle.derivation_book.specs.Price.{price}
use Rattle.derivation_book.specs.Legal.{NamesRowOrCut, AreProofMultipliers}
use Rattle.derivation_book.specs.Lemmas.Exact.{price_exact}
use Rattle.tableau.specs.declared.place.Place.{Place}
use Rattle.tableau.specs.declared.place.Place.TheVariants.{Done, NoColumn, Pivot, Cramped as CrampedRatio}
use Rattle.tableau.specs.Elimination.{zero_ℚ}
use Rattle.tableau.specs.LinearProgram.{variables, coefficients_from, row_numbers}
use Rattle.tableau.specs.Tableau.{Tableau, bounds_of, row_of, value_of}
use Rattle.tableau.specs.Place.{place}
use Rattle.tableau.specs.Start.{started}
use Rattle.tableau.specs.Run.{run_from}
use Rattle.tableau.specs.Multipliers.{numbered, point_of, mult_of_cost, row_multipliers, mult_of_row}
use Rattle.tableau.specs.Invariants.{IsTableauOf}
use Rattle.tableau.specs.Lemmas.Started.{length-coefficients, started_keeps, relaxation_is_well_formed}
use Rattle.tableau.specs.Lemmas.Places.{IsNoColumn, NoneLeaves, no_column_is, done_is}
use Rattle.tableau.specs.Lemmas.RunKeeps.{run_keeps}
use Rattle.tableau.specs.Lemmas.Leaning.{violated}
use Rattle.tableau.specs.Lemmas.Balanced.{IsBalanced}
use Rattle.tableau.specs.Lemmas.Refuting.{costs_balance, refuting_bounds, row_balances, row_above}
use Rattle.tableau.specs.Lemmas.Programs.{row_numbers_rise, numbered_rise, numbered_nonzero}
use Rattle.dual_simplex.specs.declared.answer.Answer.TheVariants.{Infeasible, Optimal}
use Rattle.dual_simplex.specs.Relaxation.{RationalPoint, SatisfiesRow, IsInRelaxation}
use Rattle.dual_simplex.specs.Answers.{linear_program, pivot_limit, run_of_start, infeasible_answer, optimal_answer, answer_or_cramped, answer_at, answer_of_run, answer}
use Rattle.dual_simplex.specs.PointSums.{sums_fit}
use Rattle.dual_simplex.specs.Meaning.{IsInfeasible, IsOptimal, AnswerHolds}
use Rattle.dual_simplex.specs.Laws.{IsBoxOf}
use Rattle.dual_simplex.specs.Lemmas.Numbers.{relaxation_rows, row_numbers_name, all_numbered}
use Rattle.dual_simplex.specs.Lemmas.Prices.{mult_from, balanced_price, balanced_signs}
use Rattle.dual_simplex.specs.Lemmas.Below.{balanced_below}
use Rattle.dual_simplex.specs.Lemmas.Optimum.{point_lies, point_satisfies, point_cost}
use Rattle.problem.specs.Directions.{aim}

-- ---- rows and cuts as one list
pub all_of_both : {A : Type 0} (P : A → Type 0) (xs ys : List A) → All P (xs ++ ys) → All P xs × All P ys
all_of_both P [] ys h = (All-nil P, h)
all_of_both P (x ∷ xs) ys h =
    let k = all_of_both P xs ys (All-tail P x (xs ++ ys) h) in
    (All-cons P x xs (All-head P x (xs ++ ys) h) k.0, k.1)

pub all_of_map : {A B : Type 0} (P : B → Type 0) (f : A → B) (xs : List A) → All P (map f xs) → All (λ x. P (f x)) xs
all_of_map P f [] h = All-nil (λ x. P (f x))
all_of_map P f (x ∷ xs) h = All-cons (λ x. P (f x)) x xs (All-head P (f x) (map f xs) h) (all_of_map P f xs (All-tail P (f x) (map f xs) h))

abbrev row_of_cut : Cut → Row
row_of_cut c = c.row

-- ---- one tableau of the relaxation
module _ (p : Problem) (cs : List Cut) (box : List Span) where
  abbrev pub rows_and_cuts : Rows
  rows_and_cuts = p.rows ++ map row_of_cut cs

  abbrev pub numbers : List ℕ
  numbers = row_numbers p (length (map row_of_cut cs))

  -- how many variables there are
  abbrev pub size : ℕ
  size = length box + length rows_and_cuts

  from_relaxation : (x : RationalPoint) → IsInRelaxation p cs box x → All (SatisfiesRow x) rows_and_cuts
  from_relaxation x h = All-append (SatisfiesRow x) p.rows (map row_of_cut cs) h.rows (All-map (SatisfiesRow x) row_of_cut cs h.cuts)

  -- ---- the multipliers
  module _ (target : Terms) (g u : List ℚ) (b : IsBalanced rows_and_cuts box (aim p) target g u) where
    balanced_multipliers : AreProofMultipliers p cs (mult_from (length box) numbers g)
    balanced_multipliers = record {
      names = all_numbered (λ (m : ℕ × ℚ). NamesRowOrCut p m.0) numbers (drop (length box) g) (λ k l. All-get_or (NamesRowOrCut p) numbers k 0 l (row_numbers_name p (length (map row_of_cut cs))));
      combined = balanced_signs (known_lines p cs) numbers rows_and_cuts box (aim p) target g u (relaxation_rows p cs) b;
    }

    -- a price that isn't cramped is the sum of all multipliers times the bounds that they go with
    pub balanced_value : length box ≡ length p.spans → (v : ℚ) → price p cs box target (mult_from (length box) numbers g) ≡ Some v → v ≡ dot_value g u
    balanced_value columns v e =
        price_exact p cs box target (mult_from (length box) numbers g) v columns e
        ∙ balanced_price (known_lines p cs) numbers rows_and_cuts box (aim p) target g u (relaxation_rows p cs) b

  rising : (g : List ℚ) → AreRising (mult_from (length box) numbers g)
  rising g = numbered_rise 0 numbers (drop (length box) g) (row_numbers_rise p (length (map row_of_cut cs)))

  nonzero : (g : List ℚ) → AreNonzero (mult_from (length box) numbers g)
  nonzero g = numbered_nonzero numbers (drop (length box) g)

  module _ (t : Tableau) (h : IsTableauOf size (linear_program p cs box) t) where
    columns_are : t.columns ≡ length box
    columns_are = h.columns ∙ length-coefficients 0 (length box) (aim p)

    pub cost_multipliers : mult_of_cost t ≡ mult_from (length box) numbers t.reduced_costs
    cost_multipliers = λ i. numbered (h.numbers i) (drop (columns_are i) t.reduced_costs)

    pub point_is : point_of t ≡ take (length box) t.values
    point_is = ap (λ n. take n t.values) columns_are

    pub costs_balanced : IsBalanced rows_and_cuts box (aim p) (aim p) t.reduced_costs t.nonbasic_values
    costs_balanced = costs_balance (aim p) rows_and_cuts numbers box t h

    -- the multipliers of the reduced costs name rows and cuts, and have right signs
    pub cost_multipliers_usable : AreRising (mult_of_cost t) × AreNonzero (mult_of_cost t) × AreProofMultipliers p cs (mult_of_cost t)
    cost_multipliers_usable =
        subst (λ mult. AreRising mult × AreNonzero mult × AreProofMultipliers p cs mult) (sym cost_multipliers)
        (rising t.reduced_costs, nonzero t.reduced_costs, balanced_multipliers (aim p) t.reduced_costs t.nonbasic_values costs_balanced)

    -- ---- infeasible
    module _ (r : ℕ) (k : IsNoColumn size t r) where
      abbrev pub g : List ℚ
      g = row_multipliers k.direction r (row_of t r)

      pub row_multipliers_are : mult_of_row t r ≡ mult_from (length box) numbers g
      row_multipliers_are =
          λ i. numbered (h.numbers i) (drop (columns_are i) (row_multipliers ((violated (bounds_of t r) (value_of t r) k.direction k.leaving.is_violated).is_direction i) r (row_of t r)))

      pub row_balanced : IsBalanced rows_and_cuts box (aim p) [] g (refuting_bounds t r k.direction)
      row_balanced = row_balances (aim p) rows_and_cuts numbers box t r h k

      -- so do those of a row that no column can help
      pub row_multipliers_usable : AreRising (mult_of_row t r) × AreNonzero (mult_of_row t r) × AreProofMultipliers p cs (mult_of_row t r)
      row_multipliers_usable =
          subst (λ mult. AreRising mult × AreNonzero mult × AreProofMultipliers p cs mult) (sym row_multipliers_are)
          (rising g, nonzero g, balanced_multipliers [] g (refuting_bounds t r k.direction) row_balanced)

      infeasible_from : length box ≡ length p.spans → (v : ℚ) → price p cs box [] (mult_from (length box) numbers g) ≡ Some v → IsInfeasible p cs box (mult_from (length box) numbers g)
      infeasible_from columns v e = record {
        rising = rising g;
        nonzero = nonzero g;
        refuting = record {
          multipliers = balanced_multipliers [] g (refuting_bounds t r k.direction) row_balanced;
          value = v;
          priced = e;
          above = subst (λ w. zero_ℚ <ℚ w) (sym (balanced_value [] g (refuting_bounds t r k.direction) row_balanced columns v e)) (row_above size (linear_program p cs box) t r h k);
        };
        empty = λ x q. not_both _ _
            (balanced_below rows_and_cuts box (aim p) [] g (refuting_bounds t r k.direction) x row_balanced q.in_box (from_relaxation x q))
            (row_above size (linear_program p cs box) t r h k);
      }

      pub row_is_infeasible : length box ≡ length p.spans → (v : ℚ) → price p cs box [] (mult_of_row t r) ≡ Some v → IsInfeasible p cs box (mult_of_row t r)
      row_is_infeasible columns v e =
          subst (IsInfeasible p cs box) (sym row_multipliers_are) (infeasible_from columns v (ap (price p cs box []) (sym row_multipliers_are) ∙ e))

    -- ---- optimal
    module _ (columns : length box ≡ length p.spans) (done : NoneLeaves size t) (nonempty : All (λ (s : Span). s.lo ≤ℤ s.hi) box) where
      value_is : (v : ℚ) → price p cs box (aim p) (mult_from (length box) numbers t.reduced_costs) ≡ Some v → v ≡ dot_value t.reduced_costs t.nonbasic_values
      value_is v e = balanced_value (aim p) t.reduced_costs t.nonbasic_values costs_balanced columns v e

      in_relaxation : IsInRelaxation p cs box (take (length box) t.values)
      in_relaxation =
          let s = all_of_both (SatisfiesRow (take (length box) t.values)) p.rows (map row_of_cut cs) (point_satisfies (aim p) rows_and_cuts numbers box t h done) in record {
            in_box = point_lies (aim p) rows_and_cuts numbers box t h done nonempty;
            rows = s.0;
            cuts = all_of_map (SatisfiesRow (take (length box) t.values)) row_of_cut cs s.1;
          }

      optimal_from : (v : ℚ) → price p cs box (aim p) (mult_from (length box) numbers t.reduced_costs) ≡ Some v → sums_fit p cs (take (length box) t.values) ≡ true
          → IsOptimal p cs box (take (length box) t.values) (mult_from (length box) numbers t.reduced_costs) v
      optimal_from v e f = record {
        point = in_relaxation;
        sums = f;
        rising = rising t.reduced_costs;
        nonzero = nonzero t.reduced_costs;
        multipliers = balanced_multipliers (aim p) t.reduced_costs t.nonbasic_values costs_balanced;
        priced = e;
        objective = value_is v e ∙ sym (point_cost (aim p) rows_and_cuts numbers box t h);
        least = λ y q. along _ _ _ _ (sym (value_is v e)) refl
            (balanced_below rows_and_cuts box (aim p) (aim p) t.reduced_costs t.nonbasic_values y costs_balanced q.in_box (from_relaxation y q));
      }

      pub point_is_optimal : (v : ℚ) → price p cs box (aim p) (mult_of_cost t) ≡ Some v → sums_fit p cs (point_of t) ≡ true → IsOptimal p cs box (point_of t) (mult_of_cost t) v
      point_is_optimal v e f =
          subst (λ x. IsOptimal p cs box x (mult_of_cost t) v) (sym point_is)
          (subst (λ mult. IsOptimal p cs box (take (length box) t.values) mult v) (sym cost_multipliers)
          (optimal_from v (ap (price p cs box (aim p)) (sym cost_multipliers) ∙ e) (ap (sums_fit p cs) (sym point_is) ∙ f)))

  -- ---- all answers
  infeasible_holds : (mult : Multipliers) (pivots : ℕ) → ((v : ℚ) → price p cs box [] mult ≡ Some v → IsInfeasible p cs box mult) → AnswerHolds p cs box (answer_or_cramped pivots (infeasible_answer p cs box mult))
  infeasible_holds mult pivots h = at (price p cs box [] mult) refl
    where
      at : (o : Option ℚ) → price p cs box [] mult ≡ o → AnswerHolds p cs box (answer_or_cramped pivots (option_map (λ v. Infeasible mult) o))
      at None e = tt
      at (Some v) e = h v e

  optimal_holds : (x : RationalPoint) (mult : Multipliers) (pivots : ℕ) → ((v : ℚ) → price p cs box (aim p) mult ≡ Some v → sums_fit p cs x ≡ true → IsOptimal p cs box x mult v)
      → AnswerHolds p cs box (answer_or_cramped pivots (optimal_answer p cs box x mult))
  optimal_holds x mult pivots h = at (sums_fit p cs x) refl (price p cs box (aim p) mult) refl
    where
      at : (f : Bool) → sums_fit p cs x ≡ f → (o : Option ℚ) → price p cs box (aim p) mult ≡ o
          → AnswerHolds p cs box (answer_or_cramped pivots (cond f (option_map (λ v. Optimal x mult v) o) None))
      at false f o e = tt
      at true f None e = tt
      at true f (Some v) e = h v e f

  pub variables_are : variables (linear_program p cs box) ≡ size
  variables_are = λ i. length-coefficients 0 (length box) (aim p) i + length-map rows_and_cuts (λ (r : Row). coefficients_from 0 (length box) r.terms) i

  pub start_is_tableau : (t : Tableau) → started (linear_program p cs box) ≡ Some t → IsTableauOf size (linear_program p cs box) t
  start_is_tableau t e = subst (λ n. IsTableauOf n (linear_program p cs box) t) variables_are (started_keeps (linear_program p cs box) t (relaxation_is_well_formed p (map row_of_cut cs) box) e)

  module _ (columns : length box ≡ length p.spans) (nonempty : All (λ (s : Span). s.lo ≤ℤ s.hi) box) where
    end_holds : (pivots : ℕ) (o : Option Tableau) (q : Place) → IfSome o (IsTableauOf size (linear_program p cs box)) → IfSome o (λ t. q ≡ place t) → AnswerHolds p cs box (answer_at p cs box pivots o q)
    end_holds pivots None q h e = tt
    end_holds pivots (Some t) Done h e = optimal_holds (point_of t) (mult_of_cost t) pivots (point_is_optimal t h columns (done_is size t h.size (sym e)) nonempty)
    end_holds pivots (Some t) (NoColumn r) h e = infeasible_holds (mult_of_row t r) pivots (row_is_infeasible t h r (no_column_is size t r h.size (sym e)) columns)
    end_holds pivots (Some t) CrampedRatio h e = tt
    end_holds pivots (Some t) (Pivot r c) h e = tt

    run_holds : (o : Option Tableau) → started (linear_program p cs box) ≡ o → AnswerHolds p cs box (answer_of_run p cs box (run_of_start (linear_program p cs box) o))
    run_holds None e = tt
    run_holds (Some t) e =
        let k = run_keeps size (linear_program p cs box) (pivot_limit (linear_program p cs box)) t (start_is_tableau t e) in
        let e = run_from (pivot_limit (linear_program p cs box)) t in
        end_holds e.pivots e.tableau e.place k.tableau k.place

-- over a box that isn't empty the answer holds
pub answers_hold : (p : Problem) (cs : List Cut) (box : List Span) → IsBoxOf p box → AnswerHolds p cs box (answer p cs box)
answers_hold p cs box b = run_holds p cs box b.columns b.nonempty (started (linear_program p cs box)) refl
