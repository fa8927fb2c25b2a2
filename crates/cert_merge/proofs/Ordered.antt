-- The multipliers of a certificate's lines are in order.
use Rattle.std.specs.Prelude.{◌≡◌, ◌<◌, ◌≤◌, ◌+◌, ℕ, zero, suc, pos, negsuc, Bool, true, false, cond, eqb, List, [], ◌∷◌, ◌++◌, length, All, Option, Some, None, refl}
use Rattle.std.specs.Option.{option_or}
use Rattle.std.proofs.Common.{sym, subst, arith}
use Rattle.std.proofs.lemmas.Option.{slice_get_within, same_Some}
use Rattle.std.proofs.lemmas.List.Elements.{All-nil, All-cons, All-head, All-tail, All-append}
use Rattle.fraction.specs.Rational.{ℚ, whole}
use Rattle.fraction.specs.Lemmas.Bounds.{whole_nonzero}
use Rattle.problem.specs.declared.row.Row.{Row}
use Rattle.problem.specs.Problem.{Problem}
use Rattle.cert_rows.specs.declared.line.CertRow.{CertRow}
use Rattle.cert_rows.specs.declared.line.Why.{Why}
use Rattle.cert_rows.specs.Combination.{combined_terms}
use Rattle.node_tree.specs.declared.branch.Side.TheVariants.{Low, High}
use Rattle.node_tree.specs.declared.branch.Branch.{Branch}
use Rattle.node_tree.specs.declared.branch.Node.{Node}
use Rattle.node_tree.specs.Nodes.{children_at}
use Rattle.node_tree.specs.Paths.{path_at}
use Rattle.node_tree.specs.Trees.{IsTree}
use Rattle.node_tree.specs.Lemmas.Boxes.{length-box}
use Rattle.node_events.specs.declared.proof.Proof.{Proof}
use Rattle.node_events.specs.declared.proof.Proof.TheVariants.{Empty, Refute, Bound}
use Rattle.node_events.specs.declared.event.Event.{Event}
use Rattle.derivation_book.specs.declared.cut.Cut.{Cut}
use Rattle.derivation_book.specs.Known.{known_lines}
use Rattle.derivation_book.specs.Rounded.{rounded_row}
use Rattle.derivation_book.specs.Price.{reduced_cost}
use Rattle.derivation_book.specs.Legal.{AreProofMultipliers, IsLegalProof}
use Rattle.event_core.specs.declared.entry.Entry.{Entry}
use Rattle.event_core.specs.States.{State, first_state, tree_of, box_of, cutoff}
use Rattle.event_core.specs.After.{after}
use Rattle.event_core.specs.Histories.{state_from, state_of}
use Rattle.cert_merge.specs.Closing.{bound_multipliers}
use Rattle.cert_merge.specs.Endings.{closing, proof_of, proof_for}
use Rattle.cert_merge.specs.Numbers.{line_of_bound, sources_of}
use Rattle.cert_merge.specs.Merged.{cut_lines, assumption_of, assumption_lines, node_multipliers, crossing, closed_line, line_by, node_lines}
use Rattle.cert_merge.specs.Laws.{AreOrdered, ReasonIsOrdered, ProofIsOrdered, EventIsOrdered, MergedIsOrdered, CutIsOrdered, ClosingIsOrdered}
use Rattle.cert_merge.specs.Lemmas.Filling.{All-placed, All-all_placed}
use Rattle.cert_merge.specs.Lemmas.Negated.{ordered_directed}
use Rattle.cert_merge.specs.Lemmas.Placing.{all_placed_rises}
use Rattle.cert_merge.specs.Lemmas.BoundLines.{IsBoundLine, is_bound_line, apart, bounds_nonzero, bounds_fresh}
use Rattle.cert_merge.specs.Lemmas.Finished.{IsDone, done_from}
use Rattle.event_core.specs.Frames.{closed_by, cut_by, cut_of_row, cuts_of}
use Rattle.event_core.specs.Lemmas.Frames.{keeps_frame}
use Rattle.problem.specs.Linear.{Multipliers}
use Rattle.problem.specs.Directions.{aim}

abbrev IsNonzero : ℕ × ℚ → Type 0
IsNonzero m = m.1 ≡ whole (pos 0) → ⊥

-- ---- one node
module _ (s : State) (tree : IsTree (tree_of s)) (i : ℕ) where
  multipliers_ordered : (target mult : List (ℕ × ℚ)) → AreProofMultipliers s.problem s.cuts mult → AreOrdered mult → AreOrdered (node_multipliers s i target mult)
  multipliers_ordered target mult h o =
      let r : ℕ → ℚ = reduced_cost target (combined_terms (known_lines s.problem s.cuts) mult) in
      let bs : List (ℕ × ℚ) = bound_multipliers r 0 (sources_of s i) in (
        all_placed_rises bs mult (bounds_fresh s i r tree mult h 0 s.problem.spans (omega arith)) o.0,
        All-all_placed IsNonzero bs mult (bounds_nonzero s i r 0 s.problem.spans) o.1,
      )

  sides_apart : (j : ℕ) → j < length s.problem.spans → line_of_bound s i j Low ≡ line_of_bound s i j High → ⊥
  sides_apart j l e =
      let a = apart s tree j j Low High (line_of_bound s i j High) l l (subst (IsBoundLine s j Low) e (is_bound_line s i j Low)) (is_bound_line s i j High) in
      different a.side
    where
      different : Low ≡ High → ⊥
      different q = cc

  crossing_ordered : (j : ℕ) → j < length s.problem.spans → AreOrdered (crossing s i j)
  crossing_ordered j l =
      let lower : ℕ × ℚ = (line_of_bound s i j Low, whole (pos 1)) in
      let upper : ℕ × ℚ = (line_of_bound s i j High, whole (negsuc 0)) in (
        all_placed_rises (lower ∷ []) (upper ∷ [])
            (All-nil (λ (k : ℕ × ℚ). lower.0 ≡ k.0 → ⊥), All-cons (λ (k : ℕ × ℚ). lower.0 ≡ k.0 → ⊥) upper [] (sides_apart j l) (All-nil (λ (k : ℕ × ℚ). lower.0 ≡ k.0 → ⊥)), tt)
            (omega arith, tt),
        All-placed IsNonzero lower (upper ∷ []) (whole_nonzero (pos 1) (λ z. cc)) (All-cons IsNonzero upper [] (whole_nonzero (negsuc 0) (λ z. cc)) (All-nil IsNonzero)),
      )

  closed_ordered : (proof : Proof) → IsLegalProof s.problem s.cuts (box_of s i) (cutoff s) proof → ProofIsOrdered proof → ReasonIsOrdered (closed_line s i proof).1
  closed_ordered (Empty j) h o = crossing_ordered j (omega (arith, slice_get_within (box_of s i) j h.span h.there, length-box (path_at (tree_of s) i) 0 s.problem.spans))
  closed_ordered (Refute mult) h o = multipliers_ordered [] mult h.multipliers o
  closed_ordered (Bound mult true) h o = ordered_directed s.problem.sense (node_multipliers s i (aim s.problem) mult) (multipliers_ordered (aim s.problem) mult h.multipliers o)
  closed_ordered (Bound mult false) h o = ordered_directed s.problem.sense (node_multipliers s i (aim s.problem) mult) (multipliers_ordered (aim s.problem) mult h.multipliers o)

-- ---- the proof of a node
closing_ordered : (e : Event) (i : ℕ) (proof : Proof) → EventIsOrdered e → closing e i ≡ Some proof → ProofIsOrdered proof
closing_ordered e i proof o c = step (closed_by e) o.1 c
  where
    step : (k : Option (ℕ × Proof)) → ClosingIsOrdered k → proof_for i k ≡ Some proof → ProofIsOrdered proof
    step None o c = cc
    step (Some d) o c = here (eqb d.0 i) c
      where
        here : (b : Bool) → cond b (Some d.1) None ≡ Some proof → ProofIsOrdered proof
        here true c = subst ProofIsOrdered (same_Some d.1 proof c) o
        here false c = cc

abbrev EntryIsOrdered : Entry → Type 0
EntryIsOrdered e = EventIsOrdered e.event

proof_ordered : (es : List Entry) (i : ℕ) (proof : Proof) → All EntryIsOrdered es → proof_of es i ≡ Some proof → ProofIsOrdered proof
proof_ordered [] i proof o e = cc
proof_ordered (d ∷ es) i proof o e = step (proof_of es i) (λ q f. proof_ordered es i q (All-tail EntryIsOrdered d es o) f) e
  where
    step : (r : Option Proof) → ((q : Proof) → r ≡ Some q → ProofIsOrdered q) → option_or r (closing d.event i) ≡ Some proof → ProofIsOrdered proof
    step None ih e = closing_ordered d.event i proof (All-head EntryIsOrdered d es o) e
    step (Some q) ih e = ih proof e

-- ---- the cuts
abbrev IsOrderedCut : Cut → Type 0
IsOrderedCut c = AreOrdered c.mult

made_ordered : (s : State) (o : Option Multipliers) → CutIsOrdered o → All IsOrderedCut (cuts_of s o)
made_ordered s None h = All-nil IsOrderedCut
made_ordered s (Some mult) h = of_row (rounded_row s.problem s.cuts mult)
  where
    of_row : (o : Option Row) → All IsOrderedCut (cut_of_row mult o)
    of_row None = All-nil IsOrderedCut
    of_row (Some r) = All-cons IsOrderedCut (record { row = r; mult = mult }) [] h (All-nil IsOrderedCut)

cuts_after : (s : State) (w : Option ℕ) (e : Event) → EventIsOrdered e → All IsOrderedCut s.cuts → All IsOrderedCut (after s w e).cuts
cuts_after s w e o h = subst (All IsOrderedCut) (sym (keeps_frame s w e).cuts) (All-append IsOrderedCut s.cuts (cuts_of s (cut_by e)) h (made_ordered s (cut_by e) o.0))

cuts_from : (s : State) (es : List Entry) → All EntryIsOrdered es → All IsOrderedCut s.cuts → All IsOrderedCut (state_from s es).cuts
cuts_from s [] o h = h
cuts_from s (e ∷ es) o h = cuts_from (after s e.worker e.event) es (All-tail EntryIsOrdered e es o) (cuts_after s e.worker e.event (All-head EntryIsOrdered e es o) h)

-- ---- all lines
abbrev LineIsOrdered : CertRow × Why → Type 0
LineIsOrdered d = ReasonIsOrdered d.1

cut_lines_ordered : (i : ℕ) (cs : List Cut) → All IsOrderedCut cs → All LineIsOrdered (cut_lines i cs)
cut_lines_ordered i [] h = All-nil LineIsOrdered
cut_lines_ordered i (c ∷ cs) h = All-cons LineIsOrdered _ (cut_lines (i + 1) cs) (All-head IsOrderedCut c cs h) (cut_lines_ordered (i + 1) cs (All-tail IsOrderedCut c cs h))

assumption_ordered : (i : ℕ) (o : Option Branch) → All LineIsOrdered (assumption_of i o)
assumption_ordered i None = All-nil LineIsOrdered
assumption_ordered i (Some b) = All-cons LineIsOrdered _ [] tt (All-nil LineIsOrdered)

assumptions_ordered : (i : ℕ) (ns : List Node) → All LineIsOrdered (assumption_lines i ns)
assumptions_ordered i [] = All-nil LineIsOrdered
assumptions_ordered i (n ∷ ns) = All-append LineIsOrdered (assumption_of i n.branch) (assumption_lines (i + 1) ns) (assumption_ordered i n.branch) (assumptions_ordered (i + 1) ns)

module _ (s : State) (es : List Entry) (done : IsDone s es) (events : All EntryIsOrdered es) where
  line_ordered : (i : ℕ) → i < length s.nodes → ReasonIsOrdered (line_by s i (children_at (tree_of s) i) (proof_of es i)).1
  line_ordered i l = step (children_at (tree_of s) i) refl
    where
      step : (o : Option (ℕ × ℕ)) → children_at (tree_of s) i ≡ o → ReasonIsOrdered (line_by s i o (proof_of es i)).1
      step (Some c) e = tt
      step None e =
          let h = done.proved i l e in
          subst (λ (o : Option Proof). ReasonIsOrdered (line_by s i None o).1) (sym h.found) (closed_ordered s done.sound.tree i h.proof h.legal (proof_ordered es i h.proof events h.found))

  nodes_ordered : (k : ℕ) → k ≤ length s.nodes → All LineIsOrdered (node_lines s es k)
  nodes_ordered zero l = All-nil LineIsOrdered
  nodes_ordered (suc i) l = All-cons LineIsOrdered _ (node_lines s es i) (line_ordered i (omega (arith, l))) (nodes_ordered i (omega (arith, l)))

pub merged_ordered : (p : Problem) → MergedIsOrdered p
merged_ordered p es f o =
    let s = state_of p es in
    All-append LineIsOrdered (cut_lines 0 s.cuts ++ assumption_lines 0 s.nodes) (node_lines s es (length s.nodes))
    (All-append LineIsOrdered (cut_lines 0 s.cuts) (assumption_lines 0 s.nodes) (cut_lines_ordered 0 s.cuts (cuts_from (first_state p) es o (All-nil IsOrderedCut))) (assumptions_ordered 0 s.nodes))
    (nodes_ordered s es (done_from p es f.legal f.none_open) o (length s.nodes) (omega arith))
