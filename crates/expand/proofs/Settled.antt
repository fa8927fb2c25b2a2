-- How a finding settles its node is legal.
use Rattle.std.specs.Prelude.{◌≡◌, ◌≤◌, ◌-◌, ℕ, ℤ, Bool, true, false, cond, List, [], length, take, Option, Some, None, refl}
use Rattle.std.proofs.Common.{sym, ◌∙◌, subst, inl, inr, arith}
use Rattle.std.proofs.lemmas.Bool.{false≢true}
use Rattle.std.proofs.lemmas.List.{length-take}
use Rattle.std.proofs.lemmas.List.Elements.{All-take}
use Rattle.fraction.specs.Rational.{ℚ, ◌≤ℚ◌}
use Rattle.fraction.specs.Order.{◌<ℚ◌}
use Rattle.fraction.specs.Lemmas.Order.{same_le, either_order}
use Rattle.problem_box.specs.declared.span.Span.{Span}
use Rattle.problem.specs.Linear.{Point, Multipliers}
use Rattle.problem.specs.Feasible.{IsFeasible}
use Rattle.problem.specs.Limits.{most_cuts}
use Rattle.row_activity.specs.Activity.{low_of}
use Rattle.node_events.specs.declared.proof.Proof.{Proof}
use Rattle.node_events.specs.declared.proof.Proof.TheVariants.{Bound}
use Rattle.node_events.specs.declared.reason.Reason.{Reason}
use Rattle.derivation_book.specs.Legal.{reaches, is_legal_proof}
use Rattle.dual_simplex.specs.Relaxation.{RationalPoint}
use Rattle.incumbent.specs.declared.best.Best.{Best}
use Rattle.incumbent.specs.Offers.{is_better, cutoff_of}
use Rattle.incumbent.specs.Lemmas.Offers.{Decides-better}
use Rattle.event_core.specs.States.{State, cutoff}
use Rattle.expand.specs.declared.finding.Finding.{Finding}
use Rattle.expand.specs.declared.finding.Finding.TheVariants.{Cuts, Shut, Whole, Solved, Loose}
use Rattle.expand.specs.declared.settlement.Branching.{Branching}
use Rattle.expand.specs.declared.settlement.Settlement.TheVariants.{Closed, Improved}
use Rattle.expand.specs.Verdicts.{IsPart}
use Rattle.expand.specs.Expansion.{is_rounded}
use Rattle.expand.specs.Findings.{HasRow, AreCutsFound, IsRelaxationOptimum, IsLoose, IsTrueFinding}
use Rattle.expand.specs.Settlements.{IsSettlement, IsShut, IsBranching, AreNewCuts}
use Rattle.expand.specs.Settling.{floors, bound_of, improved_or_closed, closed_or_branched, branching_at, settled_optimum, settled}
use Rattle.expand.proofs.Legal.{corner_closes, low_closes}
use Rattle.expand.proofs.Middles.{has_both_here}
use Rattle.expand.proofs.Nodes.{IsNodeBox}
use Rattle.expand.proofs.Optima.{both_at_floor, middle_reason, optimum_shut, fraction_reason, whole_feasible, whole_closes}
use Rattle.problem.specs.Directions.{aim_at, aim}

-- ---- the incumbent
-- a value that isn't better reaches the cutoff
not_better : (i : Option Best) (v : ℚ) → is_better i v ≡ false → (z : ℚ) × (cutoff_of i ≡ Some z) × (z ≤ℚ v)
not_better None v e = cc
not_better (Some b) v e = (
  b.value,
  refl,
  elim (either_order b.value v) [
    | inl l ↦ l
    | inr l ↦ absurd (false≢true (sym e ∙ (Decides-better (Some b) v).1 (λ c q. let same : b ≡ c = cc in subst (λ (d : Best). v <ℚ d.value) same l)))
  ],
)

module _ (s : State) (box : List Span) where
  -- a feasible point with a proof that closes the box wherever the cutoff is at most the point's aim
  point_settles : (x : Point) (proof : Proof) → IsFeasible s.problem x → ((z : ℚ) → z ≤ℚ aim_at s.problem x → is_legal_proof s.problem s.cuts box (Some z) proof ≡ true)
      → IsSettlement s box (improved_or_closed s x proof)
  point_settles x proof feasible closes = step (is_better s.incumbent (aim_at s.problem x)) refl
    where
      step : (b : Bool) → is_better s.incumbent (aim_at s.problem x) ≡ b → IsSettlement s box (cond b (Improved x proof) (Closed proof))
      step true e = record {
        feasible = feasible;
        better = (Decides-better s.incumbent (aim_at s.problem x)).0 e;
        closes = closes (aim_at s.problem x) (same_le _ _ refl);
      }
      step false e =
          let k = not_better s.incumbent (aim_at s.problem x) e in
          subst (λ (o : Option ℚ). is_legal_proof s.problem s.cuts box o proof ≡ true) (sym k.1) (closes k.0 k.2)

  closed_or_branched_settles : (reached : Bool) (proof : Proof) (b : Branching) → (reached ≡ true → IsShut s box proof) → (reached ≡ false → IsBranching s box b)
      → IsSettlement s box (closed_or_branched reached proof b)
  closed_or_branched_settles true proof b h k = h refl
  closed_or_branched_settles false proof b h k = k refl

  cuts_settle : (limit : ℕ) (mults : List Multipliers) → limit ≤ most_cuts → length s.cuts ≤ most_cuts → AreCutsFound s.problem s.cuts mults → AreNewCuts s (take (limit - length s.cuts) mults)
  cuts_settle limit mults l few h = record {
    rows = All-take (HasRow s.problem s.cuts) (limit - length s.cuts) mults h.rows;
    few_together = omega (arith, h.few, length-take (limit - length s.cuts) mults);
    few = omega (arith, l, few, length-take (limit - length s.cuts) mults);
  }

  optimum_settles : (k : ℕ) (x : RationalPoint) (mult : Multipliers) (v : ℚ) (column : Option ℕ) → IsPart s.problem box → IsRelaxationOptimum s.problem s.cuts box k x mult v column
      → IsSettlement s box (settled_optimum s k x mult v column)
  optimum_settles k x mult v None part h =
      point_settles (floors x) (bound_of s mult v) (whole_feasible s.problem s.cuts box k x mult v h.optimal h.fractional part) (whole_closes s.problem s.cuts box k x mult v h.optimal h.fractional)
  optimum_settles k x mult v (Some j) part h =
      closed_or_branched_settles (reaches (cutoff s) (is_rounded s.problem v) (Some v)) (bound_of s mult v) (branching_at k x v j)
      (optimum_shut s.problem s.cuts box k x mult v h.optimal (cutoff s))
      (λ e. record {
        both = both_at_floor box x j h.optimal.point.in_box h.fractional.1;
        holds = fraction_reason s.problem s.cuts box k x mult v h.optimal (cutoff s) j h.nonempty h.few_cuts e h.fractional.1;
      })

  module _ (n : IsNodeBox s.problem box) where
    loose_settles : (reason : Reason) (j : ℕ) (b : ℤ) → IsLoose s.problem s.cuts box reason j b
        → IsSettlement s box
        (closed_or_branched (reaches (cutoff s) false (Some (low_of box (aim s.problem)))) (Bound [] false) (record { place = record { column = j; bound = b }; reason = reason; value = None }))
    loose_settles reason j b h =
        closed_or_branched_settles (reaches (cutoff s) false (Some (low_of box (aim s.problem)))) (Bound [] false) (record { place = record { column = j; bound = b }; reason = reason; value = None })
        (low_closes s.problem s.cuts box n.limits n.columns n.modest (cutoff s) h.nonempty)
        (λ e. record { both = has_both_here box j h.middle.free b h.middle.bound; holds = middle_reason s.problem s.cuts box (cutoff s) j b reason h.nonempty h.middle h.run })

    -- by the definition of how it is settled
    pub settled_is_legal : (limit : ℕ) (f : Finding) → limit ≤ most_cuts → length s.cuts ≤ most_cuts → IsTrueFinding s.problem s.cuts box (cutoff s) f → IsSettlement s box (settled s box limit f)
    settled_is_legal limit (Cuts mults) l few h = cuts_settle limit mults l few h
    settled_is_legal limit (Shut proof) l few h = h
    settled_is_legal limit (Whole x) l few h = point_settles x (Bound [] false) h.feasible (λ z k. corner_closes s.problem s.cuts box n.limits n.columns n.modest x z h.fixed h.point k)
    settled_is_legal limit (Solved k x mult v column) l few h = optimum_settles k x mult v column n.part h
    settled_is_legal limit (Loose reason j b) l few h = loose_settles reason j b h
