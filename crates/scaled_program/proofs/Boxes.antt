-- A scaled program over another box.
use Rattle.std.proofs.Common.{◌≡◌, ℕ, suc, ◌+◌, ◌<◌, arith, refl, ap, sym, ◌∙◌, Some, List, [], ◌∷◌, ◌++◌, length, map, drop}
use Rattle.std.proofs.lemmas.List.{length-map}
use Rattle.problem_box.specs.declared.span.Span.{Span}
use Rattle.fraction.specs.Rational.{ℚ, whole}
use Rattle.tableau.specs.LinearProgram.{LinearProgram, over, span_bounds}
use Rattle.tableau.specs.Start.{started}
use Rattle.tableau.specs.Tableau.{Tableau}
use Rattle.integer_tableau.specs.Small.{IsSmallTimes}
use Rattle.integer_tableau.specs.Scales.{AreScalesTo, Scales, all_bounds, scale_at, scaled_by, unscaled, unscaled_bounds, unscaled_program}
use Rattle.scaled_program.proofs.FromCode.{is_small}
use Rattle.integer_tableau.specs.Lemmas.MapFrom.{append-map_from, drop-map_from, length-map_from}
use Rattle.scaled_program.proofs.Numbers.{scaled_self}
use Rattle.scaled_program.proofs.Starts.{start_columns, start_unscaled}
use Rattle.integer_tableau.specs.Lemmas.Scales.{column_scale}

spans_same : (σ : Scales) (i : ℕ) (spans : List Span) → ((j : ℕ) → j < length spans → σ (i + j) ≡ 1) → all_bounds σ i (map span_bounds spans) ≡ map span_bounds spans
spans_same σ i [] h = refl
spans_same σ i (s ∷ spans) h = λ t. same t ∷ spans_same σ (i + 1) spans (λ j l. ap σ (let e : i + 1 + j ≡ i + suc j = omega arith in e) ∙ h (suc j) (omega arith)) t
  where
    is_one : σ i ≡ 1
    is_one = ap σ (let e : i ≡ i + 0 = omega arith in e) ∙ h 0 (omega arith)

    end : (x : ℚ) → scaled_by 1 (σ i) x ≡ x
    end x = ap (λ b. scaled_by 1 b x) is_one ∙ scaled_self 1 x (omega arith)

    same : unscaled_bounds σ i (span_bounds s) ≡ span_bounds s
    same = λ t. record { lower = Some (end (whole s.lo) t); upper = Some (end (whole s.hi) t) }

over_unscaled : (σ : Scales) (s : ℕ) (p : LinearProgram) (spans : List Span) → length spans ≡ length p.costs → ((j : ℕ) → j < length p.costs → σ j ≡ 1) → over (unscaled_program σ s p) spans ≡ unscaled_program σ s (over p spans)
over_unscaled σ s p spans e h = ap (λ bs. record (unscaled_program σ s p) { bounds = bs })
    (ap (λ n. map span_bounds spans ++ drop n (all_bounds σ 0 p.bounds)) (length-map_from (λ j x. scaled_by (σ j) s x) 0 p.costs)
    ∙ (λ t. sym (spans_same σ 0 spans (λ j l. ap σ (let f : 0 + j ≡ j = omega arith in f) ∙ h j (omega arith))) t ++ drop-map_from (unscaled_bounds σ) (length p.costs) 0 p.bounds t)
    ∙ ap (λ n. all_bounds σ 0 (map span_bounds spans) ++ all_bounds σ n (drop (length p.costs) p.bounds)) (let f : 0 + length p.costs ≡ 0 + length (map span_bounds spans) = omega (arith, e, length-map spans span_bounds) in f)
    ∙ sym (append-map_from (unscaled_bounds σ) 0 (map span_bounds spans) (drop (length p.costs) p.bounds)))

pub start_from_code : (greatest : ℕ) (scales : List ℕ) (costs : ℕ) → AreScalesTo greatest scales costs → (p : LinearProgram) (q : LinearProgram) (spans : List Span) (t u : Tableau) → unscaled_program (scale_at (length p.costs) scales) costs p ≡ q
    → length spans ≡ length p.costs → IsSmallTimes greatest t → started (over p spans) ≡ Some t → u ≡ unscaled (scale_at t.columns scales) costs t → started (over q spans) ≡ Some u
start_from_code greatest scales costs h p q spans t u view e small f g =
    let σ = scale_at (length p.costs) scales in
    ap (λ q. started (over q spans)) (sym view)
    ∙ ap started (over_unscaled σ costs p spans e (λ j l. column_scale (length p.costs) scales j l))
    ∙ start_unscaled σ costs (over p spans) t (is_small greatest scales costs h (length p.costs) t small) f
    ∙ ap (λ n. Some (unscaled (scale_at n scales) costs t)) (start_columns (over p spans) t f)
    ∙ ap Some (sym g)
