-- Lemmas: the multipliers of an answer are legal proofs.
use Rattle.std.specs.Prelude.{◌≡◌, ℕ, List, take, Bool, IsTrue, Option, Some, refl}
use Rattle.std.proofs.Common.{subst}
use Rattle.fraction.specs.Rational.{ℚ, ◌≤ℚ◌}
use Rattle.problem_box.specs.declared.span.Span.{Span}
use Rattle.problem.specs.Linear.{Multipliers}
use Rattle.problem.specs.Problem.{Problem}
use Rattle.problem.specs.Feasible.{HasWholeObjective}
use Rattle.node_events.specs.declared.proof.Proof.TheVariants.{Refute, Bound}
use Rattle.derivation_book.specs.declared.cut.Cut.{Cut}
use Rattle.derivation_book.specs.Legal.{IsLegalProof, rounded_if}
use Rattle.derivation_book.specs.Lemmas.Staying.{by_first}
use Rattle.dual_simplex.specs.declared.answer.Answer.TheVariants.{Infeasible, Optimal}
use Rattle.dual_simplex.specs.Relaxation.{RationalPoint}
use Rattle.dual_simplex.specs.Answers.{answer}
use Rattle.dual_simplex.specs.Meaning.{IsInfeasible, IsOptimal, AnswerHolds}
use Rattle.dual_simplex.specs.Laws.{IsBoxOf}
use Rattle.dual_simplex.specs.Lemmas.TrueAnswers.{answers_hold}

pub infeasible_closes : (p : Problem) (cs : List Cut) (k : ℕ) (box : List Span) (mult : Multipliers) (cutoff : Option ℚ) → IsBoxOf p box → answer p (take k cs) box ≡ Infeasible mult
    → IsLegalProof p cs box cutoff (Refute mult)
infeasible_closes p cs k box mult cutoff b e =
    let h : IsInfeasible p (take k cs) box mult = subst (AnswerHolds p (take k cs) box) e (answers_hold p (take k cs) box b) in
    by_first p cs k box cutoff (Refute mult) h.refuting

pub optimal_closes : (p : Problem) (cs : List Cut) (k : ℕ) (box : List Span) (x : RationalPoint) (mult : Multipliers) (v limit : ℚ) (rounded : Bool) → IsBoxOf p box
    → answer p (take k cs) box ≡ Optimal x mult v → (IsTrue rounded → HasWholeObjective p) → limit ≤ℚ rounded_if rounded v → IsLegalProof p cs box (Some limit) (Bound mult rounded)
optimal_closes p cs k box x mult v limit rounded b e whole reached =
    let h : IsOptimal p (take k cs) box x mult v = subst (AnswerHolds p (take k cs) box) e (answers_hold p (take k cs) box b) in
    by_first p cs k box (Some limit) (Bound mult rounded) record {
      multipliers = h.multipliers;
      whole_objective = whole;
      limit = limit;
      limited = refl;
      value = v;
      priced = h.priced;
      reached = reached;
    }
