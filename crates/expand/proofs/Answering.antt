-- What a relaxation with all cuts answers.
use Rattle.std.specs.Prelude.{◌≡◌, ℕ, List, length, take, Option, Some, IfSome}
use Rattle.std.proofs.Common.{◌∙◌, subst, arith}
use Rattle.std.proofs.lemmas.List.{take_all}
use Rattle.fraction.specs.Rational.{ℚ}
use Rattle.problem_box.specs.declared.span.Span.{Span}
use Rattle.problem.specs.Linear.{Multipliers}
use Rattle.problem.specs.Problem.{Problem}
use Rattle.derivation_book.specs.declared.cut.Cut.{Cut}
use Rattle.tableau.specs.Tableau.{Tableau}
use Rattle.dual_simplex.specs.declared.answer.Answer.TheVariants.{Optimal}
use Rattle.dual_simplex.specs.Relaxation.{RationalPoint}
use Rattle.dual_simplex.specs.Answers.{linear_program, run, answer}
use Rattle.dual_simplex.specs.Meaning.{IsOptimal, AnswerHolds}
use Rattle.dual_simplex.specs.Laws.{IsBoxOf}
use Rattle.dual_simplex.specs.Lemmas.TrueAnswers.{answers_hold}
use Rattle.dual_simplex.specs.Lemmas.Below.{length-lies}

module _ (p : Problem) (cs : List Cut) (box : List Span) (n : ℕ) (e : n ≡ length cs) where
  all_cuts : take n cs ≡ cs
  all_cuts = take_all n cs (omega (arith, e))

  pub tableau_left : (o : Option Tableau) → IfSome (run (linear_program p (take n cs) box)).tableau (λ t. o ≡ Some t) → IfSome (run (linear_program p cs box)).tableau (λ t. o ≡ Some t)
  tableau_left o h = subst (λ ds. IfSome (run (linear_program p ds box)).tableau (λ t. o ≡ Some t)) all_cuts h

pub point_columns : (p : Problem) (cs : List Cut) (box : List Span) (x : RationalPoint) (mult : Multipliers) (v : ℚ) → IsBoxOf p box → answer p cs box ≡ Optimal x mult v → length x ≡ length p.spans
point_columns p cs box x mult v b e =
    let optimum : IsOptimal p cs box x mult v = subst (AnswerHolds p cs box) e (answers_hold p cs box b) in
    length-lies box x optimum.point.in_box ∙ b.columns
