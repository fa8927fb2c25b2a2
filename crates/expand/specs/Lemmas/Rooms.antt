-- Lemmas: without room no cuts are found, and where none are found, none are made.
use Rattle.std.specs.Prelude.{◌≡◌, ℕ, Bool, true, false, cond, List, [], length, take, Option, Some, None, refl}
use Rattle.std.proofs.Common.{sym, ◌∙◌, subst}
use Rattle.fraction.specs.Rational.{ℚ}
use Rattle.problem_box.specs.declared.span.Span.{Span}
use Rattle.problem.specs.Linear.{Point, Multipliers}
use Rattle.problem.specs.Problem.{Problem}
use Rattle.row_activity.specs.declared.verdict.Verdict.{Verdict}
use Rattle.row_activity.specs.declared.verdict.Verdict.TheVariants.{Empty, Refuted, Priced, Point as OnePoint, Unsettled}
use Rattle.row_activity.specs.Activity.{low_of}
use Rattle.row_activity.specs.Verdicts.{verdict}
use Rattle.node_events.specs.declared.proof.Proof.{Proof}
use Rattle.node_events.specs.declared.proof.Proof.TheVariants.{Bound}
use Rattle.derivation_book.specs.declared.cut.Cut.{Cut}
use Rattle.derivation_book.specs.Legal.{reaches}
use Rattle.pseudo_cost.specs.declared.column_gains.ColumnGains.{ColumnGains}
use Rattle.dual_simplex.specs.declared.answer.Answer.{Answer}
use Rattle.dual_simplex.specs.declared.answer.Answer.TheVariants.{Infeasible, Optimal, Cramped, Stalled}
use Rattle.dual_simplex.specs.Relaxation.{RationalPoint}
use Rattle.dual_simplex.specs.Answers.{linear_program, run, answer}
use Rattle.incumbent.specs.Offers.{is_better}
use Rattle.event_core.specs.States.{State, cutoff}
use Rattle.expand.specs.declared.finding.Finding.{Finding}
use Rattle.expand.specs.declared.finding.Finding.TheVariants.{Cuts, Shut, Whole, Solved, Loose}
use Rattle.expand.specs.declared.settlement.Branching.{Branching}
use Rattle.expand.specs.declared.settlement.Settlement.{Settlement}
use Rattle.expand.specs.declared.settlement.Settlement.TheVariants.{Separated, Closed, Improved}
use Rattle.expand.specs.Expansion.{is_rounded, is_separated, separation_by, cuts_found, IsOptimum, IsOfOptimum, IsOfAnswer, IsOfVerdict, IsExpansion}
use Rattle.expand.specs.Settling.{improved_or_closed, closed_or_branched, bound_of, branching_at, floors, settled_optimum, settled}
use Rattle.problem.specs.Directions.{aim_at, aim}

-- ---- findings
-- a finding is no cuts
abbrev pub IsNoCuts : Finding → Type 0
IsNoCuts f = (mults : List Multipliers) → f ≡ Cuts mults → ⊥

module _ (p : Problem) (cs : List Cut) (box : List Span) (cutoff : Option ℚ) (costs : List ColumnGains) where
  none_found : (x : RationalPoint) (v : ℚ) → cuts_found p cs box cutoff 0 x v ≡ []
  none_found x v = step (is_separated p cutoff x v)
    where
      step : (b : Bool) → cond b (take 0 (separation_by p cs x (run (linear_program p cs box)).tableau)) [] ≡ []
      step true = refl
      step false = refl

  by_answer : (a : Answer) (f : Finding) → IsOfAnswer p cs box cutoff costs 0 a f → IsNoCuts f
  by_answer (Infeasible mult) f h mults e = cc
  by_answer (Optimal x mult v) f h mults e =
      let k : IsOptimum costs (length cs) x mult v f = subst (λ ms. IsOfOptimum costs (length cs) x mult v ms f) (none_found x v) h in
      let bad : Solved (length cs) x mult v k.column ≡ Cuts mults = sym k.found ∙ e in
      cc
  by_answer (Cramped pivots) f h mults e = let bad = sym h.found ∙ e in cc
  by_answer Stalled f h mults e = let bad = sym h.found ∙ e in cc

  by_verdict : (v : Verdict) (f : Finding) → IsOfVerdict p cs box cutoff costs 0 v f → IsNoCuts f
  by_verdict (Empty j) f h mults e = cc
  by_verdict (Refuted i s) f h mults e = cc
  by_verdict Priced f h mults e = cc
  by_verdict OnePoint f h mults e = cc
  by_verdict Unsettled f h mults e = by_answer (answer p cs box) f h mults e

  pub without_room : (room : ℕ) (f : Finding) → room ≡ 0 → IsExpansion p cs box cutoff costs room f → IsNoCuts f
  without_room room f z h = by_verdict (verdict p box cutoff) f (subst (λ n. IsExpansion p cs box cutoff costs n f) z h)

-- ---- settlements
-- a settlement is no cuts
abbrev pub IsNotSeparated : Settlement → Type 0
IsNotSeparated g = (mults : List Multipliers) → g ≡ Separated mults → ⊥

module _ (s : State) (box : List Span) (limit : ℕ) where
  point_not_separated : (x : Point) (proof : Proof) → IsNotSeparated (improved_or_closed s x proof)
  point_not_separated x proof = step (is_better s.incumbent (aim_at s.problem x))
    where
      step : (b : Bool) → IsNotSeparated (cond b (Improved x proof) (Closed proof))
      step true mults e = cc
      step false mults e = cc

  split_not_separated : (reached : Bool) (proof : Proof) (b : Branching) → IsNotSeparated (closed_or_branched reached proof b)
  split_not_separated true proof b mults e = cc
  split_not_separated false proof b mults e = cc

  optimum_not_separated : (k : ℕ) (x : RationalPoint) (mult : Multipliers) (v : ℚ) (column : Option ℕ) → IsNotSeparated (settled_optimum s k x mult v column)
  optimum_not_separated k x mult v None = point_not_separated (floors x) (bound_of s mult v)
  optimum_not_separated k x mult v (Some j) = split_not_separated (reaches (cutoff s) (is_rounded s.problem v) (Some v)) (bound_of s mult v) (branching_at k x v j)

  pub without_cuts : (f : Finding) → IsNoCuts f → IsNotSeparated (settled s box limit f)
  without_cuts (Cuts ms) n = absurd (n ms refl)
  without_cuts (Shut proof) n = λ mults e. cc
  without_cuts (Whole x) n = point_not_separated x (Bound [] false)
  without_cuts (Solved k x mult v column) n = optimum_not_separated k x mult v column
  without_cuts (Loose reason j b) n =
      split_not_separated (reaches (cutoff s) false (Some (low_of box (aim s.problem)))) (Bound [] false) (record { place = record { column = j; bound = b }; reason = reason; value = None })
