-- What a step does to the state and to the list of the open nodes.
use Rattle.std.specs.Prelude.{◌≡◌, ◌<◌, ◌≤◌, ◌+◌, ◌-◌, ℕ, ℤ, pos, ◌≤ℤ◌, ◌<ℤ◌, nat_abs, true, List, [], ◌∷◌, ◌++◌, length, max, All, Option, Some, None, slice_get, slice_index_or, Result, Ok, Err, OnOk, OnErr, refl}
use Rattle.std.specs.Option.{ForSome}
use Rattle.std.proofs.Common.{sym, ap, ◌∙◌, subst, arith}
use Rattle.std.proofs.Math.Nat.{le-max_left, max-le}
use Rattle.std.proofs.lemmas.Int.{ints}
use Rattle.std.proofs.lemmas.List.Elements.{All-get_or}
use Rattle.std.proofs.lemmas.Option.{slice_get-get_or}
use Rattle.fraction.specs.Rational.{ℚ}
use Rattle.problem_box.specs.declared.span.Span.{Span}
use Rattle.problem.specs.Problem.{Problem}
use Rattle.problem.specs.Limited.{IsModestSpan}
use Rattle.problem.specs.Limits.{largest_bound}
use Rattle.node_tree.specs.Trees.{IsTree}
use Rattle.node_tree.specs.Lemmas.Splitting.{length-split, splits_share}
use Rattle.node_events.specs.declared.event.Event.TheVariants.{Split}
use Rattle.dual_simplex.specs.Prepared.{IsRelaxationOf}
use Rattle.event_core.specs.declared.admit.Admit.TheVariants.{Yes, NotOpen, NotYours, BadSplit, BadReason}
use Rattle.event_core.specs.States.{State, tree_of, is_open, box_of, cutoff}
use Rattle.event_core.specs.Judging.{judged}
use Rattle.event_core.specs.Splits.{has_both, is_reason}
use Rattle.event_core.specs.After.{after_claim, after_close, after_offer, after_split}
use Rattle.event_core.specs.Histories.{state_from}
use Rattle.event_core.specs.Laws.{unheld}
use Rattle.event_core.specs.Lemmas.Passing.{passing}
use Rattle.event_core.specs.Lemmas.Boxes.{both_within, both_tells}
use Rattle.event_core.specs.Lemmas.Ended.{left_within}
use Rattle.expand.specs.declared.settlement.Branching.{Branching}
use Rattle.expand.specs.declared.settlement.Settlement.{Settlement}
use Rattle.expand.specs.declared.settlement.Settlement.TheVariants.{Separated, Closed, Improved, Branched}
use Rattle.expand.specs.Laws.{entries_of}
use Rattle.expand.specs.Settlements.{events_of, IsBranching, IsSettlement}
use Rattle.core_search.specs.declared.worker.Worker.{Worker}
use Rattle.core_search.specs.Deciding.{IsSameButCuts}
use Rattle.core_search.specs.Workers.{IsPrepared}
use Rattle.derivation_book.specs.declared.cut.Cut.{Cut}
use Rattle.core_search.specs.declared.open_node.OpenNode.{OpenNode}
use Rattle.core_search.specs.Holding.{IsHeldAlone}
use Rattle.core_search.specs.OpenNodes.{IsOpenNode, AreOpenNodes, children, work_left}
use Rattle.core_search.specs.Entries.{IsGreatest}
use Rattle.core_search.specs.Processing.{EndsNode, IsClosing, IsExhausted}
use Rattle.core_search.proofs.Acting.{claimed, given_back}
use Rattle.core_search.proofs.OpenLists.{closed_nodes, split_nodes, offered_nodes, cut_nodes, less_closed, less_split}

-- ---- results
pub on_any_ok : {A E P : Type 0} (r : Result A E) → P → OnOk r P
on_any_ok (Ok x) h = h
on_any_ok (Err e) h = tt

pub on_any_err : {A E P : Type 0} (r : Result A E) → P → OnErr r P
on_any_err (Ok x) h = tt
on_any_err (Err e) h = h

-- whatever the result is
pub on_either : {A E P Q R : Type 0} (r : Result A E) → (P → R) → (Q → R) → OnOk r P → OnErr r Q → R
on_either (Ok x) f g p q = f p
on_either (Err e) f g p q = g q

pub on_both_ok : {A E P Q R : Type 0} (r : Result A E) → (P → Q → R) → OnOk r P → OnOk r Q → OnOk r R
on_both_ok (Ok x) f h k = f h k
on_both_ok (Err e) f h k = tt

-- ---- the budget
-- one after the other
pub joined_within : (budget : ℕ) (s t u : State) → length t.nodes ≤ max budget (length s.nodes) → length u.nodes ≤ max budget (length t.nodes) → length u.nodes ≤ max budget (length s.nodes)
joined_within budget s t u h k = let m = max-le (le-max_left budget (length s.nodes)) h in omega (arith, k, m)

-- ---- closings
-- the node has ended
ends_closed : (budget : ℕ) (s t : State) (os : List OpenNode) (o : OpenNode) → t ≡ after_close s o.number → IsHeldAlone s o.number → AreOpenNodes s (os ++ o ∷ []) → EndsNode budget s (os ++ o ∷ []) t os
ends_closed budget s t os o e h b = subst (λ (u : State). EndsNode budget s (os ++ o ∷ []) u os) (sym e) (record {
  unheld = given_back s o.number h;
  nodes = closed_nodes s os o b;
  less = less_closed budget (length s.nodes) os o;
})

ends_point : (budget : ℕ) (s t : State) (x : List ℤ) (os : List OpenNode) (o : OpenNode) → t ≡ after_close (after_offer s x) o.number → IsHeldAlone s o.number → AreOpenNodes s (os ++ o ∷ [])
    → EndsNode budget s (os ++ o ∷ []) t os
ends_point budget s t x os o e h b =
    let r = ends_closed budget (after_offer s x) t os o e (record { held = h.held; opened = h.opened }) (offered_nodes s x (os ++ o ∷ []) b) in
    record { unheld = r.unheld; nodes = r.nodes; less = r.less }

-- by the events that close it
ends_closing : (budget : ℕ) (s t : State) (os : List OpenNode) (o : OpenNode) (g : Settlement) → IsClosing g → t ≡ state_from s (entries_of 0 (events_of o.number g)) → IsHeldAlone s o.number
    → AreOpenNodes s (os ++ o ∷ []) → EndsNode budget s (os ++ o ∷ []) t os
ends_closing budget s t os o (Separated mults) k e h b = absurd k
ends_closing budget s t os o (Closed proof) k e h b = ends_closed budget s t os o e h b
ends_closing budget s t os o (Improved x proof) k e h b = ends_point budget s t x os o e h b
ends_closing budget s t os o (Branched branching) k e h b = absurd k

-- ---- splits
abbrev no_span : Span
no_span = record { lo = pos 0; hi = pos 0 }

module _ (s : State) (o : OpenNode) (open_node : IsOpenNode s o) (b : Branching) (h : IsBranching s o.area b) where
  both : has_both (slice_get (box_of s o.number) b.place.column) b.place.bound ≡ true
  both = ap (λ ss. has_both (slice_get ss b.place.column) b.place.bound) (sym open_node.area) ∙ h.both

  reason : is_reason s.problem s.cuts (box_of s o.number) (cutoff s) b.place.column b.place.bound b.reason ≡ true
  reason = ap (λ ss. is_reason s.problem s.cuts ss (cutoff s) b.place.column b.place.bound b.reason) (sym open_node.area) ∙ h.holds

  pub split_settles : IsSettlement s (box_of s o.number) (Branched b)
  split_settles = record { both = both; holds = reason }

  split_admitted : judged s None (Split o.number b.place.column b.place.bound b.reason) ≡ Yes
  split_admitted =
      passing (is_open s o.number) NotOpen _ open_node.opened
      (passing true NotYours _ refl
      (passing (has_both (slice_get (box_of s o.number) b.place.column) b.place.bound) BadSplit _ both
      (passing (is_reason s.problem s.cuts (box_of s o.number) (cutoff s) b.place.column b.place.bound b.reason) BadReason Yes reason refl)))

  pub exhausted : (budget : ℕ) → budget < length s.nodes + 2 → IsGreatest s o.number → IsExhausted budget s
  exhausted budget l greatest = (
    record { splits = record { node = o.number; column = b.place.column; bound = b.place.bound; reason = b.reason; admitted = split_admitted }; full = l },
    record { node = o.number; opened = open_node.opened; greatest = greatest; column = b.place.column; bound = b.place.bound; reason = b.reason; admitted = split_admitted },
  )

-- nobody holds a node then
pub exhausted_unheld : (budget : ℕ) (s t : State) → t ≡ unheld s → IsExhausted budget s → IsExhausted budget t
exhausted_unheld budget s t e h = subst (IsExhausted budget) (sym e) (
  record {
    splits = record { node = h.0.splits.node; column = h.0.splits.column; bound = h.0.splits.bound; reason = h.0.splits.reason; admitted = h.0.splits.admitted };
    full = h.0.full;
  },
  record { node = h.1.node; opened = h.1.opened; greatest = h.1.greatest; column = h.1.column; bound = h.1.bound; reason = h.1.reason; admitted = h.1.admitted },
)

-- what the two children of a split ask of its box
module _ (ss : List Span) (j : ℕ) (b : ℤ) (h : has_both (slice_get ss j) b ≡ true) where
  pub left_at : ForSome (slice_get ss j) (λ s. (s.lo ≤ℤ b) × (b <ℤ s.hi))
  left_at = both_tells (slice_get ss j) b h

  pub bound_modest : All IsModestSpan ss → nat_abs b ≤ largest_bound
  bound_modest m =
      let l = both_within ss j b h in
      let there = slice_get-get_or ss j no_span l in
      let k = left_at (slice_index_or ss j no_span) there in
      let n = All-get_or IsModestSpan ss j no_span l m in
      omega (arith, ints, k.0, k.1, n.0, n.1)

pub ends_split : (budget : ℕ) (s t : State) (os us : List OpenNode) (o : OpenNode) (j : ℕ) (b : ℤ) (value : Option ℚ) → t ≡ after_split s o.number j b → us ≡ os ++ children (length s.nodes) o.area j b value
    → IsHeldAlone s o.number → AreOpenNodes s (os ++ o ∷ []) → IsTree (tree_of s) → length s.ended ≡ length s.nodes → j < length s.problem.spans → length s.nodes + 2 ≤ budget
    → EndsNode budget s (os ++ o ∷ []) t us
ends_split budget s t os us o j b value e q h boxes tree size within l =
    let there : o.number < length s.nodes = omega (arith, left_within s.ended o.number h.opened, size) in
    let two = children (length s.nodes) o.area j b value in
    subst (λ (u : State). EndsNode budget s (os ++ o ∷ []) u us) (sym e)
    (subst (λ vs. EndsNode budget s (os ++ o ∷ []) (after_split s o.number j b) vs) (sym q) (record {
      unheld = given_back s o.number h;
      nodes = split_nodes s os o boxes j b value size (splits_share (tree_of s) tree o.number j b there) within;
      less = less_split budget (length s.nodes) (length (after_split s o.number j b).nodes) os two o refl (length-split (tree_of s) o.number j b) l;
    }))

-- ---- a node is claimed
pub held_claimed : (s t : State) (i : ℕ) → t ≡ after_claim s (Some 0) i → s.holds ≡ [] → is_open s i ≡ true → IsHeldAlone t i
held_claimed s t i e h o = subst (λ (u : State). IsHeldAlone u i) (sym e) (claimed s i h o)

-- what the worker keeps, where problem and cuts stay
pub still_prepared : (s t : State) (w : Worker) → t.problem ≡ s.problem → t.cuts ≡ s.cuts → IsPrepared s w → IsPrepared t w
still_prepared s t w p c h = record {
  all_cuts = h.all_cuts ∙ ap length (sym c);
  prepared = subst (λ (q : Problem). IsRelaxationOf q t.cuts w.relaxation) (sym p) (subst (λ (cs : List Cut). IsRelaxationOf s.problem cs w.relaxation) (sym c) h.prepared);
  costs = h.costs ∙ ap (λ (q : Problem). length q.spans) (sym p);
  limit = h.limit;
}

-- ---- states that differ in cuts
pub same_cuts : (s t : State) → t ≡ s → IsSameButCuts s t
same_cuts s t e = e ∙ ap (λ cs. record s { cuts = cs }) (ap (λ (u : State). u.cuts) (sym e))

pub joined_cuts : (s t u : State) → IsSameButCuts s t → IsSameButCuts t u → IsSameButCuts s u
joined_cuts s t u h k = k ∙ ap (λ (v : State). record v { cuts = u.cuts }) h

pub held_cuts : (s t : State) (i : ℕ) → IsSameButCuts s t → IsHeldAlone s i → IsHeldAlone t i
held_cuts s t i e h = subst (λ (u : State). IsHeldAlone u i) (sym e) (record { held = h.held; opened = h.opened })

pub nodes_cuts : (s t : State) (os : List OpenNode) → IsSameButCuts s t → AreOpenNodes s os → AreOpenNodes t os
nodes_cuts s t os e h = subst (λ (u : State). AreOpenNodes u os) (sym e) (cut_nodes s t.cuts os h)

-- what ends a node after cuts were made ends it
pub ends_after_cuts : (budget : ℕ) (s t u : State) (before after : List OpenNode) → IsSameButCuts s t → EndsNode budget t before u after → EndsNode budget s before u after
ends_after_cuts budget s t u before after e h = record {
  unheld = h.unheld;
  nodes = h.nodes;
  less = subst (λ n. work_left budget u after < budget - n + length before) (ap (λ (v : State). length v.nodes) e) h.less;
}

pub closing_after_cuts : (budget : ℕ) (s t u : State) (os : List OpenNode) (o : OpenNode) (g : Settlement) → IsSameButCuts s t → IsClosing g → u ≡ state_from t (entries_of 0 (events_of o.number g)) → IsHeldAlone s o.number
    → AreOpenNodes s (os ++ o ∷ []) → EndsNode budget s (os ++ o ∷ []) u os
closing_after_cuts budget s t u os o g c k e h b =
    ends_after_cuts budget s t u (os ++ o ∷ []) os c (ends_closing budget t u os o g k e (held_cuts s t o.number c h) (nodes_cuts s t (os ++ o ∷ []) c b))
