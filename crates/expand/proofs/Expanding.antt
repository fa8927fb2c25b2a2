-- What is found of a node holds.
use Rattle.std.specs.Prelude.{◌≡◌, ◌<◌, ◌≤◌, ◌^◌, ℕ, Bool, true, false, cond, List, [], ◌∷◌, length, take, All, Option, Some, None, refl}
use Rattle.std.proofs.Common.{sym, ap, ◌∙◌, subst, arith}
use Rattle.std.proofs.lemmas.List.{take_all, length-take}
use Rattle.std.proofs.lemmas.List.Elements.{All-nil, All-take, All-weaker}
use Rattle.std.proofs.lemmas.Option.{slice_get_within}
use Rattle.fraction.specs.Rational.{ℚ}
use Rattle.problem_box.specs.declared.span.Span.{Span}
use Rattle.problem.specs.Linear.{Multipliers}
use Rattle.problem.specs.Problem.{Problem}
use Rattle.problem.specs.Limited.{IsLimited}
use Rattle.problem.specs.Feasible.{IsFeasible}
use Rattle.row_activity.specs.declared.verdict.Sign.{Sign}
use Rattle.row_activity.specs.declared.verdict.Verdict.{Verdict}
use Rattle.row_activity.specs.declared.verdict.Verdict.TheVariants.{Empty, Refuted, Priced, Point as OnePoint, Unsettled}
use Rattle.row_activity.specs.Verdicts.{verdict}
use Rattle.row_activity.specs.Meaning.{IsOnePoint, IsOpen, Tells}
use Rattle.row_activity.specs.Lemmas.Laws.{verdict_tells, feasible_point}
use Rattle.node_events.specs.declared.proof.Proof.TheVariants.{Empty as Crossed, Refute, Bound}
use Rattle.derivation_book.specs.declared.cut.Cut.{Cut}
use Rattle.pseudo_cost.specs.declared.column_gains.ColumnGains.{ColumnGains}
use Rattle.tableau.specs.Tableau.{Tableau}
use Rattle.dual_simplex.specs.declared.answer.Answer.{Answer}
use Rattle.dual_simplex.specs.declared.answer.Answer.TheVariants.{Infeasible, Optimal, Cramped, Stalled}
use Rattle.dual_simplex.specs.Relaxation.{RationalPoint}
use Rattle.dual_simplex.specs.Answers.{linear_program, run, answer}
use Rattle.dual_simplex.specs.Meaning.{IsOptimal, AnswerHolds}
use Rattle.dual_simplex.specs.Laws.{IsBoxOf}
use Rattle.dual_simplex.specs.Lemmas.TrueAnswers.{answers_hold}
use Rattle.gomory_cuts.specs.Separation.{most_separated, separation}
use Rattle.gomory_cuts.specs.Laws.{IsSeparating, SeparationsSeparate}
use Rattle.expand.specs.declared.finding.Finding.{Finding}
use Rattle.expand.specs.Verdicts.{multiplier, corner, verdict_proof}
use Rattle.expand.specs.Expansion.{is_separated, separation_by, cuts_found, IsOfOptimum, IsOfAnswer, IsOfVerdict}
use Rattle.expand.specs.Findings.{HasRow, IsWholePoint, IsTrueFinding}
use Rattle.expand.proofs.Legal.{corner_is, by_verdict}
use Rattle.expand.proofs.Nodes.{IsNodeBox}
use Rattle.expand.proofs.Optima.{infeasible_shut}
use Rattle.expand.proofs.Fractional.{chosen_is_fractional}

-- ---- the verdict
verdict_meaning : (p : Problem) (box : List Span) (c : Option ℚ) (v : Verdict) → verdict p box c ≡ v → Tells p box c v
verdict_meaning p box c v e = subst (Tells p box c) e (verdict_tells p box c)

-- the column and the row that it names have numbers of 32 bits
pub column_numbered : (p : Problem) (box : List Span) (c : Option ℚ) (j : ℕ) → IsLimited p → length box ≡ length p.spans → Tells p box c (Empty j) → j < 2 ^ 32
column_numbered p box c j l e t = let k = slice_get_within box j t.0.span t.0.there in omega (arith, k, e, l.few_columns)

pub row_numbered : (p : Problem) (box : List Span) (c : Option ℚ) (i : ℕ) (s : Sign) → IsLimited p → Tells p box c (Refuted i s) → i < 2 ^ 32
row_numbered p box c i s l t = let k = slice_get_within p.rows i t.row t.there in omega (arith, k, l.few_rows)

-- ---- cuts
-- at most four, each with a rounded row
record AreRows (p : Problem) (cs : List Cut) (mults : List Multipliers) : Type 0 where
  few : length mults ≤ most_separated
  rows : All (HasRow p cs) mults

module _ (p : Problem) (cs : List Cut) (separations : SeparationsSeparate) where
  no_rows : AreRows p cs []
  no_rows = record { few = omega arith; rows = All-nil (HasRow p cs) }

  separated_rows : (x : RationalPoint) (o : Option Tableau) → AreRows p cs (separation_by p cs x o)
  separated_rows x None = no_rows
  separated_rows x (Some t) =
      let h = separations p cs t x in
      record { few = h.few; rows = All-weaker (IsSeparating p cs x) (HasRow p cs) (λ m k. (k.row, k.rounded)) (separation p cs t x) h.each }

  first_rows : (room : ℕ) (mults : List Multipliers) → AreRows p cs mults → AreRows p cs (take room mults)
  first_rows room mults h = record { few = omega (arith, h.few, length-take room mults); rows = All-take (HasRow p cs) room mults h.rows }

  found_rows : (box : List Span) (cutoff : Option ℚ) (room : ℕ) (x : RationalPoint) (v : ℚ) → AreRows p cs (cuts_found p cs box cutoff room x v)
  found_rows box cutoff room x v = step (is_separated p cutoff x v)
    where
      step : (b : Bool) → AreRows p cs (cond b (take room (separation_by p cs x (run (linear_program p cs box)).tableau)) [])
      step true = first_rows room (separation_by p cs x (run (linear_program p cs box)).tableau) (separated_rows x (run (linear_program p cs box)).tableau)
      step false = no_rows

-- ---- findings
module _ (p : Problem) (cs : List Cut) (box : List Span) (cutoff : Option ℚ) (n : IsNodeBox p box) (separations : SeparationsSeparate) where
  all_cuts : take (length cs) cs ≡ cs
  all_cuts = take_all (length cs) cs (omega arith)

  -- with all cuts
  with_all : (a : Answer) → answer p cs box ≡ a → answer p (take (length cs) cs) box ≡ a
  with_all a e = ap (λ ds. answer p ds box) all_cuts ∙ e

  optimum_holds : (costs : List ColumnGains) (room : ℕ) (x : RationalPoint) (mult : Multipliers) (v : ℚ) (f : Finding) → IsOpen box → answer p cs box ≡ Optimal x mult v
      → IsOfOptimum costs (length cs) x mult v (cuts_found p cs box cutoff room x v) f → IsTrueFinding p cs box cutoff f
  optimum_holds costs room x mult v f o e h = step (cuts_found p cs box cutoff room x v) (found_rows p cs separations box cutoff room x v) h
    where
      b : IsBoxOf p box
      b = record { columns = n.columns; nonempty = o.nonempty }

      optimum : IsOptimal p (take (length cs) cs) box x mult v
      optimum = subst (AnswerHolds p (take (length cs) cs) box) (with_all (Optimal x mult v) e) (answers_hold p (take (length cs) cs) box b)

      step : (ms : List Multipliers) → AreRows p cs ms → IsOfOptimum costs (length cs) x mult v ms f → IsTrueFinding p cs box cutoff f
      step [] r k = subst (IsTrueFinding p cs box cutoff) (sym k.found) (record {
        nonempty = o.nonempty;
        few_cuts = omega arith;
        optimal = optimum;
        fractional = chosen_is_fractional costs x k.column k.chosen;
      })
      step (m ∷ ms) r k = subst (IsTrueFinding p cs box cutoff) (sym k) (record { some = omega arith; few = r.few; rows = r.rows })

  answer_holds : (costs : List ColumnGains) (room : ℕ) (f : Finding) (a : Answer) → IsOpen box → answer p cs box ≡ a → IsOfAnswer p cs box cutoff costs room a f → IsTrueFinding p cs box cutoff f
  answer_holds costs room f (Infeasible mult) o e h =
      subst (IsTrueFinding p cs box cutoff) (sym h) (infeasible_shut p cs box cutoff (length cs) mult (record { columns = n.columns; nonempty = o.nonempty }) (with_all (Infeasible mult) e))
  answer_holds costs room f (Optimal x mult v) o e h = optimum_holds costs room x mult v f o e h
  answer_holds costs room f (Cramped pivots) o e h =
      subst (IsTrueFinding p cs box cutoff) (sym h.found) (record { nonempty = o.nonempty; run = (omega arith, with_all (Cramped pivots) e); middle = h.middle })
  answer_holds costs room f Stalled o e h =
      subst (IsTrueFinding p cs box cutoff) (sym h.found) (record { nonempty = o.nonempty; run = (omega arith, with_all Stalled e); middle = h.middle })

  whole_holds : IsOnePoint p box cutoff → IsWholePoint p box (corner box)
  whole_holds h = record {
    fixed = h.fixed;
    point = refl;
    feasible = subst (IsFeasible p) (sym (corner_is p box cutoff h)) (feasible_point p box cutoff h (n.part h.point h.inside));
  }

  -- by the verdict
  pub verdict_holds : (costs : List ColumnGains) (room : ℕ) (f : Finding) (v : Verdict) → verdict p box cutoff ≡ v → IsOfVerdict p cs box cutoff costs room v f → IsTrueFinding p cs box cutoff f
  verdict_holds costs room f (Empty j) e h = subst (IsTrueFinding p cs box cutoff) (sym h) (by_verdict p cs box n.limits n.columns n.modest cutoff (Crossed j) (ap verdict_proof e))
  verdict_holds costs room f (Refuted i s) e h = subst (IsTrueFinding p cs box cutoff) (sym h) (by_verdict p cs box n.limits n.columns n.modest cutoff (Refute ((i, multiplier s) ∷ [])) (ap verdict_proof e))
  verdict_holds costs room f Priced e h = subst (IsTrueFinding p cs box cutoff) (sym h) (by_verdict p cs box n.limits n.columns n.modest cutoff (Bound [] false) (ap verdict_proof e))
  verdict_holds costs room f OnePoint e h = subst (IsTrueFinding p cs box cutoff) (sym h) (whole_holds (verdict_meaning p box cutoff OnePoint e))
  verdict_holds costs room f Unsettled e h = answer_holds costs room f (answer p cs box) (verdict_meaning p box cutoff Unsettled e) refl h
