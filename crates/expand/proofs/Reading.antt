-- The tableau that the run of an optimal answer left.
use Rattle.std.specs.Prelude.{◌≡◌, ◌≤◌, List, length, Option, Some, None, IfSome, IsSomeAnd}
use Rattle.std.proofs.Common.{sym, ◌∙◌, subst, arith}
use Rattle.std.proofs.lemmas.Option.{same_Some}
use Rattle.fraction.specs.Rational.{ℚ}
use Rattle.problem_box.specs.declared.span.Span.{Span}
use Rattle.problem.specs.Linear.{Multipliers}
use Rattle.problem.specs.Problem.{Problem}
use Rattle.derivation_book.specs.declared.cut.Cut.{Cut}
use Rattle.tableau.specs.LinearProgram.{variables}
use Rattle.tableau.specs.Tableau.{Tableau}
use Rattle.dual_simplex.specs.declared.answer.Answer.TheVariants.{Optimal}
use Rattle.dual_simplex.specs.Relaxation.{RationalPoint}
use Rattle.dual_simplex.specs.Answers.{linear_program, run, answer}
use Rattle.dual_simplex.specs.Meaning.{AreReadOff}
use Rattle.dual_simplex.specs.Lemmas.TrueAnswers.{variables_are}
use Rattle.dual_simplex.specs.Lemmas.ReadOff.{optimal_is_read_off}

module _ (p : Problem) (cs : List Cut) (box : List Span) (x : RationalPoint) (mult : Multipliers) (v : ℚ) where
  -- it has a variable for each column
  pub tableau_columns : (o : Option Tableau) (t : Tableau) → length box ≡ length p.spans → answer p cs box ≡ Optimal x mult v → IfSome (run (linear_program p cs box)).tableau (λ t. o ≡ Some t) → o ≡ Some t
      → length p.spans ≤ length t.statuses
  tableau_columns o t columns e h k = step (run (linear_program p cs box)).tableau (optimal_is_read_off p cs box x mult v e) h
    where
      step : (r : Option Tableau) → IsSomeAnd r (AreReadOff p cs box x mult) → IfSome r (λ t. o ≡ Some t) → length p.spans ≤ length t.statuses
      step None a b = absurd a
      step (Some u) a b =
          let same : u ≡ t = same_Some u t (sym b ∙ k) in
          let size : length u.statuses ≡ variables (linear_program p cs box) = a.is_tableau.size.statuses in
          subst (λ (w : Tableau). length p.spans ≤ length w.statuses) same (omega (arith, size, variables_are p cs box, columns))
