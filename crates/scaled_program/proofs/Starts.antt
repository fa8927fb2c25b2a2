-- The start of a scaled program, read with scales.
use Rattle.std.proofs.Common.{◌≡◌, ℕ, ◌+◌, ◌<◌, arith, refl, ap, sym, ◌∙◌, subst, Option, Some, None, List, [], ◌∷◌, ◌++◌, length, map, replicate, Bool, true, false}
use Rattle.std.specs.Prelude.{pos, int_lt, if◌then◌else◌}
use Rattle.std.specs.Option.{option_map, unwrap_or}
use Rattle.std.proofs.lemmas.List.{length-replicate}
use Rattle.fraction.specs.Lemmas.Bounds.{was_mapped}
use Rattle.fraction.specs.Rational.{ℚ}
use Rattle.tableau.specs.declared.bounds.Bounds.{Bounds}
use Rattle.tableau.specs.declared.status.BasisStatus.TheVariants.{Basic, AtLower, AtUpper}
use Rattle.tableau.specs.Elimination.{zero_ℚ}
use Rattle.tableau.specs.LinearProgram.{LinearProgram}
use Rattle.tableau.specs.Pivot.{computed_values}
use Rattle.tableau.specs.Start.{padded, slack_basis, start_status, start_value, start_values, started}
use Rattle.tableau.specs.Tableau.{Tableau}
use Rattle.integer_tableau.specs.Scales.{Scales, all_bounds, scaled_by, unscaled, unscaled_bounds, unscaled_program, unscaled_row, unscaled_rows, unscaled_value, unscaled_values}
use Rattle.scaled_program.specs.Sizes.{IsSmall, IsSmallAt}
use Rattle.integer_tableau.specs.Lemmas.MapFrom.{append-map_from, length-map_from, replicate-map_from}
use Rattle.scaled_program.proofs.Numbers.{scaled_below, scaled_zero}
use Rattle.scaled_program.proofs.Values.{values_unscaled}

module _ (σ : Scales) (s : ℕ) (o : (i : ℕ) → 0 < σ i) (os : 0 < s) where
  statuses_start : (i : ℕ) (ds : List ℚ) → map start_status (unscaled_row σ s i ds) ≡ map start_status ds
  statuses_start i [] = refl
  statuses_start i (d ∷ ds) = λ t. (if scaled_below (σ i) s d (o i) os t then AtUpper else AtLower) ∷ statuses_start (i + 1) ds t

  bound_or_zero : (i : ℕ) (b : Option ℚ) → unwrap_or (option_map (unscaled_value σ i) b) zero_ℚ ≡ unscaled_value σ i (unwrap_or b zero_ℚ)
  bound_or_zero i None = sym (scaled_zero 1 (σ i))
  bound_or_zero i (Some x) = refl

  value_start : (i : ℕ) (d : ℚ) (b : Bounds) → start_value (scaled_by (σ i) s d) (unscaled_bounds σ i b) ≡ unscaled_value σ i (start_value d b)
  value_start i d b =
      (λ t. if scaled_below (σ i) s d (o i) os t then bound_or_zero i b.upper t else bound_or_zero i b.lower t) ∙ step (int_lt d.num (pos 0))
    where
      step : (e : Bool) → (if e then unscaled_value σ i (unwrap_or b.upper zero_ℚ) else unscaled_value σ i (unwrap_or b.lower zero_ℚ)) ≡ unscaled_value σ i (if e then unwrap_or b.upper zero_ℚ else unwrap_or b.lower zero_ℚ)
      step true = refl
      step false = refl

  values_start : (i : ℕ) (ds : List ℚ) (bs : List Bounds) → start_values (unscaled_row σ s i ds) (all_bounds σ i bs) ≡ unscaled_values σ i (start_values ds bs)
  values_start i [] bs = refl
  values_start i (d ∷ ds) [] = refl
  values_start i (d ∷ ds) (b ∷ bs) = λ t. value_start i d b t ∷ values_start (i + 1) ds bs t

  padded_values : (m : ℕ) (xs : List ℚ) → padded m (unscaled_values σ 0 xs) ≡ unscaled_values σ 0 (padded m xs)
  padded_values m xs =
      sym (append-map_from (unscaled_value σ) 0 xs (replicate m zero_ℚ) ∙ ap (λ ys. unscaled_values σ 0 xs ++ ys) (replicate-map_from (unscaled_value σ) m (0 + length xs) zero_ℚ zero_ℚ (λ k. scaled_zero 1 (σ k))))

  padded_row : (k m : ℕ) (row : List ℚ) → padded m (unscaled_row σ k 0 row) ≡ unscaled_row σ k 0 (padded m row)
  padded_row k m row =
      sym (append-map_from (λ j x. scaled_by (σ j) k x) 0 row (replicate m zero_ℚ)
      ∙ ap (λ ys. unscaled_row σ k 0 row ++ ys) (replicate-map_from (λ j x. scaled_by (σ j) k x) m (0 + length row) zero_ℚ zero_ℚ (λ j. scaled_zero (σ j) k)))

  padded_rows : (m i : ℕ) (rows : List (List ℚ)) → map (padded m) (unscaled_rows σ i rows) ≡ unscaled_rows σ i (map (padded m) rows)
  padded_rows m i [] = refl
  padded_rows m i (row ∷ rows) = λ t. padded_row (σ i) m row t ∷ padded_rows m (i + 1) rows t

  all_rows : (n m : ℕ) (rows : List (List ℚ)) → replicate n [] ++ map (padded m) (unscaled_rows σ n rows) ≡ unscaled_rows σ 0 (replicate n [] ++ map (padded m) rows)
  all_rows n m rows =
      ap (λ ys. replicate n [] ++ ys) (padded_rows m n rows)
      ∙ sym (append-map_from (λ i row. unscaled_row σ (σ i) 0 row) 0 (replicate n []) (map (padded m) rows)
      ∙ (λ t. replicate-map_from (λ i row. unscaled_row σ (σ i) 0 row) n 0 [] [] (λ k. refl) t ++ unscaled_rows σ (added n t) (map (padded m) rows)))
    where
      added : (n : ℕ) → 0 + length (replicate n (let e : List ℚ = [] in e)) ≡ n
      added n = omega (arith, length-replicate n (let e : List ℚ = [] in e))

  slack_unscaled : (p : LinearProgram) → slack_basis (unscaled_program σ s p) ≡ unscaled σ s (slack_basis p)
  slack_unscaled p =
      (λ t. let n = columns t in let m = rows_many t in record {
        columns = n;
        numbers = p.numbers;
        bounds = all_bounds σ 0 p.bounds;
        statuses = map start_status (unscaled_row σ s 0 p.costs) ++ replicate m Basic;
        nonbasic_values = padded m (start_values (unscaled_row σ s 0 p.costs) (all_bounds σ 0 p.bounds));
        rows = replicate n [] ++ map (padded m) (unscaled_rows σ (length p.costs) p.rows);
        reduced_costs = padded m (unscaled_row σ s 0 p.costs);
        values = replicate (n + m) zero_ℚ;
        pivots = 0;
      })
      ∙ (λ t. record {
        columns = length p.costs;
        numbers = p.numbers;
        bounds = all_bounds σ 0 p.bounds;
        statuses = statuses_start 0 p.costs t ++ replicate (length p.rows) Basic;
        nonbasic_values = (ap (padded (length p.rows)) (values_start 0 p.costs p.bounds) ∙ padded_values (length p.rows) (start_values p.costs p.bounds)) t;
        rows = all_rows (length p.costs) (length p.rows) p.rows t;
        reduced_costs = padded_row s (length p.rows) p.costs t;
        values = sym (replicate-map_from (unscaled_value σ) (length p.costs + length p.rows) 0 zero_ℚ zero_ℚ (λ k. scaled_zero 1 (σ k))) t;
        pivots = 0;
      })
    where
      columns : length (unscaled_row σ s 0 p.costs) ≡ length p.costs
      columns = length-map_from (λ j x. scaled_by (σ j) s x) 0 p.costs

      rows_many : length (unscaled_rows σ (length p.costs) p.rows) ≡ length p.rows
      rows_many = length-map_from (λ i row. unscaled_row σ (σ i) 0 row) (length p.costs) p.rows

pub start_unscaled : (σ : Scales) (s : ℕ) (p : LinearProgram) (t : Tableau) → IsSmall σ s t → started p ≡ Some t → started (unscaled_program σ s p) ≡ Some (unscaled σ s t)
start_unscaled σ s p t small e =
    let b = slack_basis p in
    let v = was_mapped (λ values. record b { values = values }) (computed_values b.nonbasic_values b.statuses b.nonbasic_values b.rows) t e in
    from v.0 v.1 (subst (IsSmallAt small.denominator σ s) (sym v.2) small.at_denominator) ∙ ap (λ t. Some (unscaled σ s t)) v.2
  where
    from : (values : List ℚ) → (let b = slack_basis p in computed_values b.nonbasic_values b.statuses b.nonbasic_values b.rows ≡ Some values) → IsSmallAt small.denominator σ s (record (slack_basis p) { values = values })
        → started (unscaled_program σ s p) ≡ Some (unscaled σ s (record (slack_basis p) { values = values }))
    from values e x =
        let b = slack_basis p in
        ap (λ (b : Tableau). option_map (λ values. record b { values = values }) (computed_values b.nonbasic_values b.statuses b.nonbasic_values b.rows)) (slack_unscaled σ s (λ i. (x.denominators i).0) x.cost_denominator.0 p)
        ∙ ap (option_map (λ values. record (unscaled σ s b) { values = values }))
        (ap (λ xs. computed_values (unscaled_values σ 0 xs) b.statuses (unscaled_values σ 0 b.nonbasic_values) (unscaled_rows σ 0 b.rows)) x.point
        ∙ values_unscaled σ small.denominator x.positive x.denominators x.numbers x.total 0 b.statuses b.nonbasic_values b.rows values x.rows
        (ap (λ xs. computed_values xs b.statuses b.nonbasic_values b.rows) (sym x.point) ∙ e))

pub start_columns : (p : LinearProgram) (t : Tableau) → started p ≡ Some t → length p.costs ≡ t.columns
start_columns p t e =
    let b = slack_basis p in
    let v = was_mapped (λ values. record b { values = values }) (computed_values b.nonbasic_values b.statuses b.nonbasic_values b.rows) t e in
    ap (λ (t : Tableau). t.columns) v.2
