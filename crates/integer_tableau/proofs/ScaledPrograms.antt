-- A linear program that was scaled, read with its scales.
use Rattle.std.proofs.Common.{◌≡◌, ℕ, suc, ◌+◌, ◌-◌, ◌<◌, arith, refl, ap, sym, ◌∙◌, subst, Bool, true, false, None, List, [], ◌∷◌, length, get_or, map, inl, inr}
use Rattle.std.specs.Prelude.{ℤ, nat_lt, if◌then◌else◌}
use Rattle.std.proofs.lemmas.Bool.{cases_lt}
use Rattle.std.proofs.lemmas.List.{ext_get_or, get_or-map, get_or_past, length-map}
use Rattle.fraction.specs.Rational.{whole}
use Rattle.tableau.specs.Leaving.{unbounded}
use Rattle.tableau.specs.LinearProgram.{LinearProgram}
use Rattle.integer_tableau.specs.Lemmas.MapFrom.{get_or-map_from, length-map_from}
use Rattle.integer_tableau.specs.IntegerProgram.{fraction_program}
use Rattle.integer_tableau.specs.IntegerTableau.{fraction_bounds}
use Rattle.integer_tableau.specs.Scales.{AreScaledBounds, AreScaledRows, Scales, all_bounds, scale_at, scaled_by, unscaled_bounds, unscaled_program, unscaled_row, unscaled_rows}
use Rattle.integer_tableau.specs.declared.integer_bounds.IntegerBounds.{IntegerBounds}
use Rattle.integer_tableau.specs.Lemmas.Scales.{column_scale, row_scale}

-- ---- scales
pub scale_positive : (columns : ℕ) (scales : List ℕ) (i : ℕ) → ((i : ℕ) → i < length scales → 0 < get_or scales i 1) → 0 < scale_at columns scales i
scale_positive columns scales i h = step (nat_lt i columns)
  where
    at : (i : ℕ) → 0 < get_or scales i 1
    at i = elim (cases_lt i (length scales)) [
      | inl l ↦ h i l
      | inr l ↦ subst (λ n. 0 < n) (sym (get_or_past scales i 1 l)) (omega arith)
    ]

    step : (b : Bool) → 0 < (if b then 1 else get_or scales (i - columns) 1)
    step true = omega arith
    step false = at (i - columns)

-- ---- rows
row_is : (σ : Scales) (k i : ℕ) (zs : List ℤ) → ((j : ℕ) → j < length zs → σ (i + j) ≡ 1) → unscaled_row σ k i (map whole zs) ≡ map (λ z. scaled_by 1 k (whole z)) zs
row_is σ k i [] h = refl
row_is σ k i (z ∷ zs) h = λ t. scaled_by ((ap σ (let e : i ≡ i + 0 = omega arith in e) ∙ h 0 (omega arith)) t) k (whole z)
    ∷ row_is σ k (i + 1) zs (λ j l. ap σ (let e : i + 1 + j ≡ i + suc j = omega arith in e) ∙ h (suc j) (omega arith)) t

pub program_is : (scales : List ℕ) (s : ℕ) (rows : List (List ℤ)) (costs : List ℤ) (bounds : List IntegerBounds) (numbers : List ℕ) (p : LinearProgram)
    → map (λ z. scaled_by 1 s (whole z)) costs ≡ p.costs → length rows ≡ length p.rows → AreScaledRows scales rows p.rows → ((i : ℕ) → i < length rows → length (get_or rows i []) ≡ length p.costs)
    → length bounds ≡ length p.bounds → AreScaledBounds (length p.costs) scales bounds p.bounds → numbers ≡ p.numbers
    → unscaled_program (scale_at (length (fraction_program rows costs bounds numbers).costs) scales) s (fraction_program rows costs bounds numbers) ≡ p
program_is scales s rows costs bounds numbers p ec er hr w eb hb en =
    ap (λ n. unscaled_program (scale_at n scales) s (fraction_program rows costs bounds numbers)) columns
    ∙ (λ t. record { rows = rows_are t; costs = costs_are t; bounds = bounds_are t; numbers = en t })
  where
    σ : Scales
    σ = scale_at (length p.costs) scales

    columns : length (map whole costs) ≡ length p.costs
    columns = length-map costs whole ∙ sym (length-map costs (λ z. scaled_by 1 s (whole z))) ∙ ap length ec

    costs_are : unscaled_row σ s 0 (map whole costs) ≡ p.costs
    costs_are = row_is σ s 0 costs (λ j l. ap σ (let e : 0 + j ≡ j = omega arith in e) ∙ column_scale (length p.costs) scales j (omega (arith, l, columns, length-map costs whole))) ∙ ec

    row_at : (i : ℕ) → i < length rows → get_or (unscaled_rows σ (length (map whole costs)) (map (map whole) rows)) i [] ≡ get_or p.rows i []
    row_at i l =
        get_or-map_from (λ i row. unscaled_row σ (σ i) 0 row) (length (map whole costs)) (map (map whole) rows) i [] [] (λ k. refl)
        ∙ (λ t. unscaled_row σ ((ap (λ n. σ (n + i)) columns ∙ row_scale (length p.costs) scales i) t) 0 (get_or-map (map whole) rows i [] [] l t))
        ∙ row_is σ (get_or scales i 1) 0 (get_or rows i []) (λ j m. ap σ (let e : 0 + j ≡ j = omega arith in e) ∙ column_scale (length p.costs) scales j (omega (arith, m, w i l)))
        ∙ hr i l

    many : length (unscaled_rows σ (length (map whole costs)) (map (map whole) rows)) ≡ length rows
    many = length-map_from (λ i row. unscaled_row σ (σ i) 0 row) (length (map whole costs)) (map (map whole) rows) ∙ length-map rows (map whole)

    rows_are : unscaled_rows σ (length (map whole costs)) (map (map whole) rows) ≡ p.rows
    rows_are = ext_get_or [] (unscaled_rows σ (length (map whole costs)) (map (map whole) rows)) p.rows (many ∙ er) (λ i l. row_at i (omega (arith, l, many)))

    bounds_many : length (all_bounds σ 0 (map fraction_bounds bounds)) ≡ length bounds
    bounds_many = length-map_from (unscaled_bounds σ) 0 (map fraction_bounds bounds) ∙ length-map bounds fraction_bounds

    bound_at : (i : ℕ) → i < length bounds → get_or (all_bounds σ 0 (map fraction_bounds bounds)) i unbounded ≡ get_or p.bounds i unbounded
    bound_at i l =
        get_or-map_from (unscaled_bounds σ) 0 (map fraction_bounds bounds) i unbounded unbounded (λ k. refl)
        ∙ (λ t. unscaled_bounds σ (let e : 0 + i ≡ i = omega arith in e t) (get_or-map fraction_bounds bounds i (record { lower = None; upper = None }) unbounded l t))
        ∙ hb i l

    bounds_are : all_bounds σ 0 (map fraction_bounds bounds) ≡ p.bounds
    bounds_are = ext_get_or unbounded (all_bounds σ 0 (map fraction_bounds bounds)) p.bounds (bounds_many ∙ eb) (λ i l. bound_at i (omega (arith, l, bounds_many)))
