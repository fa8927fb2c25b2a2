-- The parts of the program's own tableau, from those of the tableau on scaled numbers.
use Rattle.std.proofs.Common.{◌≡◌, ℕ, arith, ap, sym, ◌∙◌, List, length}
use Rattle.integer_tableau.specs.Lemmas.MapFrom.{length-map_from}
use Rattle.integer_tableau.specs.Scales.{scale_at, scaled_by, unscaled, unscaled_bounds, unscaled_row, unscaled_value}
use Rattle.integer_tableau.specs.Small.{IsSmallTimes}
use Rattle.tableau.specs.Tableau.{Tableau, row_of}
use Rattle.scaled_program.proofs.Places.{row_unscaled}

module _ (greatest : ℕ) (scales : List ℕ) (costs : ℕ) (t v : Tableau) (small : IsSmallTimes greatest t) (view : unscaled (scale_at t.columns scales) costs t ≡ v) where
  pub statuses_many : length t.statuses ≡ length v.statuses
  statuses_many = ap (λ (w : Tableau). length w.statuses) view

  pub bounds_many : length v.bounds ≡ length v.statuses
  bounds_many =
      let e = ap (λ (w : Tableau). length w.bounds) view in
      omega (arith, e, length-map_from (unscaled_bounds (scale_at t.columns scales)) 0 t.bounds, small.shaped.size.bounds, small.shaped.size.statuses, statuses_many)

  pub nonbasic_values_many : length v.nonbasic_values ≡ length v.statuses
  nonbasic_values_many =
      let e = ap (λ (w : Tableau). length w.nonbasic_values) view in
      omega (arith, e, length-map_from (unscaled_value (scale_at t.columns scales)) 0 t.nonbasic_values, small.shaped.size.nonbasic_values, small.shaped.size.statuses, statuses_many)

  pub values_many : length v.values ≡ length v.statuses
  values_many =
      let e = ap (λ (w : Tableau). length w.values) view in
      omega (arith, e, length-map_from (unscaled_value (scale_at t.columns scales)) 0 t.values, small.shaped.size.values, small.shaped.size.statuses, statuses_many)

  pub costs_many : length v.reduced_costs ≡ length v.statuses
  costs_many =
      let e = ap (λ (w : Tableau). length w.reduced_costs) view in
      omega (arith, e, length-map_from (λ j x. scaled_by (scale_at t.columns scales j) costs x) 0 t.reduced_costs, small.shaped.size.reduced_costs, small.shaped.size.statuses, statuses_many)

  pub rows_many : length v.rows ≡ length v.statuses
  rows_many =
      let e = ap (λ (w : Tableau). length w.rows) view in
      omega (arith, e, length-map_from (λ i row. unscaled_row (scale_at t.columns scales) (scale_at t.columns scales i) 0 row) 0 t.rows, small.shaped.size.rows, small.shaped.size.statuses, statuses_many)

  pub row_long : (i : ℕ) → length (row_of v i) ≡ length (row_of t i)
  row_long i =
      sym (ap (λ (w : Tableau). length (row_of w i)) view)
      ∙ ap length (row_unscaled (scale_at t.columns scales) t.rows i)
      ∙ length-map_from (λ j x. scaled_by (scale_at t.columns scales j) (scale_at t.columns scales i) x) 0 (row_of t i)
