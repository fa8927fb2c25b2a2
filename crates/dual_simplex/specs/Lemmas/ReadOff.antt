-- Lemmas: an optimal answer is read off a tableau that is done.
use Rattle.std.specs.Prelude.{IfSome, IsSomeAnd, cond}
use Rattle.std.proofs.Common.{◌≡◌, ℕ, refl, sym, subst, Bool, true, false, Option, Some, None, List, []}
use Rattle.std.specs.Option.{option_map}
use Rattle.fraction.specs.Rational.{ℚ}
use Rattle.problem_box.specs.declared.span.Span.{Span}
use Rattle.problem.specs.Linear.{Multipliers}
use Rattle.problem.specs.Problem.{Problem}
use Rattle.derivation_book.specs.declared.cut.Cut.{Cut}
use Rattle.derivation_book.specs.Price.{price}
use Rattle.tableau.specs.declared.place.Place.{Place}
use Rattle.tableau.specs.declared.place.Place.TheVariants.{Done, NoColumn, Pivot, Cramped as CrampedRatio}
use Rattle.tableau.specs.LinearProgram.{variables}
use Rattle.tableau.specs.Tableau.{Tableau}
use Rattle.tableau.specs.Place.{place}
use Rattle.tableau.specs.Start.{started}
use Rattle.tableau.specs.Run.{run_from}
use Rattle.tableau.specs.Multipliers.{point_of, mult_of_cost, mult_of_row}
use Rattle.tableau.specs.Invariants.{IsTableauOf}
use Rattle.tableau.specs.Lemmas.RunKeeps.{run_keeps}
use Rattle.dual_simplex.specs.declared.answer.Answer.TheVariants.{Infeasible, Optimal}
use Rattle.dual_simplex.specs.Relaxation.{RationalPoint}
use Rattle.dual_simplex.specs.PointSums.{sums_fit}
use Rattle.dual_simplex.specs.Answers.{linear_program, pivot_limit, run_of_start, run, answer_or_cramped, answer_at, answer_of_run, answer}
use Rattle.dual_simplex.specs.Meaning.{IsTableauAt, AreReadOff}
use Rattle.dual_simplex.specs.Lemmas.TrueAnswers.{variables_are, start_is_tableau}
use Rattle.problem.specs.Directions.{aim}

module _ (p : Problem) (cs : List Cut) (box : List Span) (x : RationalPoint) (mult : Multipliers) (v : ℚ) where
  -- an answer by multipliers of a row isn't optimal
  not_by_row : (pivots : ℕ) (ms : Multipliers) (o : Option ℚ) → answer_or_cramped pivots (option_map (λ v. Infeasible ms) o) ≡ Optimal x mult v → ⊥
  not_by_row pivots ms None e = cc
  not_by_row pivots ms (Some w) e = cc

  at_point : (pivots : ℕ) (y : RationalPoint) (ms : Multipliers) (b : Bool) (o : Option ℚ) → answer_or_cramped pivots (cond b (option_map (λ v. Optimal y ms v) o) None) ≡ Optimal x mult v
      → (x ≡ y) × (mult ≡ ms)
  at_point pivots y ms false o e = absurd (let z : ⊥ = cc in z)
  at_point pivots y ms true None e = absurd (let z : ⊥ = cc in z)
  at_point pivots y ms true (Some w) e = (cc, cc)

  read_at : (pivots : ℕ) (o : Option Tableau) (q : Place) → IfSome o (IsTableauAt p cs box) → IfSome o (λ t. q ≡ place t) → answer_at p cs box pivots o q ≡ Optimal x mult v
      → IsSomeAnd o (AreReadOff p cs box x mult)
  read_at pivots None q h e f = absurd (let z : ⊥ = cc in z)
  read_at pivots (Some t) Done h e f =
      let w = at_point pivots (point_of t) (mult_of_cost t) (sums_fit p cs (point_of t)) (price p cs box (aim p) (mult_of_cost t)) f in
      record { is_tableau = h; is_done = sym e; is_point = w.0; is_mult = w.1 }
  read_at pivots (Some t) (NoColumn r) h e f = absurd (not_by_row pivots (mult_of_row t r) (price p cs box [] (mult_of_row t r)) f)
  read_at pivots (Some t) CrampedRatio h e f = absurd (let z : ⊥ = cc in z)
  read_at pivots (Some t) (Pivot r c) h e f = absurd (let z : ⊥ = cc in z)

  read_run : (o : Option Tableau) → started (linear_program p cs box) ≡ o → answer_of_run p cs box (run_of_start (linear_program p cs box) o) ≡ Optimal x mult v
      → IsSomeAnd (run_of_start (linear_program p cs box) o).tableau (AreReadOff p cs box x mult)
  read_run None e f = absurd (let z : ⊥ = cc in z)
  read_run (Some t) e f =
      let h : IsTableauAt p cs box t = subst (λ n. IsTableauOf n (linear_program p cs box) t) (sym (variables_are p cs box)) (start_is_tableau p cs box t e) in
      let k = run_keeps (variables (linear_program p cs box)) (linear_program p cs box) (pivot_limit (linear_program p cs box)) t h in
      read_at (run_from (pivot_limit (linear_program p cs box)) t).pivots (run_from (pivot_limit (linear_program p cs box)) t).tableau (run_from (pivot_limit (linear_program p cs box)) t).place k.tableau k.place f

pub optimal_is_read_off : (p : Problem) (cs : List Cut) (box : List Span) (x : RationalPoint) (mult : Multipliers) (v : ℚ) → answer p cs box ≡ Optimal x mult v
    → IsSomeAnd (run (linear_program p cs box)).tableau (AreReadOff p cs box x mult)
optimal_is_read_off p cs box x mult v e = read_run p cs box x mult v (started (linear_program p cs box)) refl e
