-- What the worker finds of its node, and how it settles it.
use Rattle.std.specs.Prelude.{◌≡◌, ◌≤◌, ℕ, List, length, Option}
use Rattle.std.proofs.Common.{sym, ap, ◌∙◌, subst}
use Rattle.fraction.specs.Rational.{ℚ}
use Rattle.problem_box.specs.declared.span.Span.{Span}
use Rattle.problem.specs.Problem.{Problem}
use Rattle.problem.specs.Limits.{most_cuts}
use Rattle.derivation_book.specs.declared.cut.Cut.{Cut}
use Rattle.dual_simplex.specs.Prepared.{Prepared, IsRelaxationOf}
use Rattle.event_core.specs.States.{State, cutoff}
use Rattle.expand.specs.declared.finding.Finding.{Finding}
use Rattle.expand.specs.declared.origin.Origin.{Origin}
use Rattle.expand.specs.Expansion.{IsExpansion, costs_after}
use Rattle.expand.specs.Findings.{IsTrueFinding}
use Rattle.pseudo_cost.specs.declared.column_gains.ColumnGains.{ColumnGains}
use Rattle.expand.specs.Subproblems.{IsSubproblem}
use Rattle.core_search.specs.declared.worker.Worker.{Worker}
use Rattle.core_search.specs.Workers.{IsPrepared}

-- by the state's own parts
pub subproblem_same : (s : State) (p : Problem) (cs : List Cut) (r : Prepared) (box : List Span) → p ≡ s.problem → cs ≡ s.cuts → IsSubproblem s.problem s.cuts r box → IsSubproblem p cs r box
subproblem_same s p cs r box e f h = subst (λ (q : Problem × List Cut). IsSubproblem q.0 q.1 r box) (λ i. (sym e i, sym f i)) h

pub holds_same : (s : State) (p : Problem) (cs : List Cut) (box : List Span) (c : Option ℚ) (f : Finding) → p ≡ s.problem → cs ≡ s.cuts → c ≡ cutoff s → IsTrueFinding p cs box c f → IsTrueFinding s.problem s.cuts box (cutoff s) f
holds_same s p cs box c f e g k h = subst (λ (q : Problem × List Cut × Option ℚ). IsTrueFinding q.0 q.1 box q.2 f) (λ i. (e i, g i, k i)) h

pub expansion_same : (s : State) (p : Problem) (cs : List Cut) (box : List Span) (c : Option ℚ) (costs : List ColumnGains) (room : ℕ) (f : Finding) → p ≡ s.problem → cs ≡ s.cuts → c ≡ cutoff s
    → IsExpansion p cs box c costs room f → IsExpansion s.problem s.cuts box (cutoff s) costs room f
expansion_same s p cs box c costs room f e g k h = subst (λ (q : Problem × List Cut × Option ℚ). IsExpansion q.0 q.1 box q.2 costs room f) (λ i. (e i, g i, k i)) h

pub costs_same : (s : State) (p : Problem) (cs : List Cut) (box : List Span) (c : Option ℚ) (origin : Option Origin) (costs : List ColumnGains) → p ≡ s.problem → cs ≡ s.cuts → c ≡ cutoff s
    → costs_after p cs box c origin costs ≡ costs_after s.problem s.cuts box (cutoff s) origin costs
costs_same s p cs box c origin costs e g k = λ i. costs_after (e i) (g i) box (k i) origin costs

-- the worker stays prepared as its costs change
pub prepared_still : (s : State) (w v : Worker) → IsPrepared s w → v.relaxation ≡ w.relaxation → v.limit ≡ w.limit → length v.costs ≡ length w.costs → IsPrepared s v
prepared_still s w v h e f k = record {
  all_cuts = ap (λ (r : Prepared). r.cuts) e ∙ h.all_cuts;
  prepared = subst (IsRelaxationOf s.problem s.cuts) (sym e) h.prepared;
  costs = k ∙ h.costs;
  limit = subst (λ n. n ≤ most_cuts) (sym f) h.limit;
}
