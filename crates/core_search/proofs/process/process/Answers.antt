use Rattle.std.proofs.Common.{◌∙◌, List, [], ◌∷◌, ◌++◌, ap, length, subst, sym}
use Rattle.std.proofs.lemmas.Result.{on_err_weaker, on_ok_weaker}
use Rattle.expand.specs.declared.settlement.Settlement.TheVariants.{Branched}
use Rattle.core_search.specs.Visits.{IsDecision}
use Rattle.problem_box.specs.declared.span.Span.{Span}
use Rattle.event_core.specs.States.{State}
use Rattle.expand.specs.Settlements.{IsSettlement}
use Rattle.core_search.specs.Holding.{IsHeldAlone}
use Rattle.core_search.proofs.Closing.{closes_else, closing_left}
use Rattle.core_search.proofs.Entering.{same_problem}
use Rattle.core_search.specs.OpenNodes.{children}
use Rattle.core_search.proofs.OpenLists.{last_node}
use Rattle.core_search.proofs.Pooling.{goes_on}
use Rattle.core_search.proofs.Stepping.{on_any_ok, on_both_ok, still_prepared, closing_after_cuts, held_cuts, nodes_cuts}
use Rattle.core_search.proofs.Visiting.{decision_unended, unended_both, unended_stays}
use Rattle.core_search.proofs.process.process.Goals as goal

pub returns-in-Branched-clause-goes_on : goal.returns-in-Branched-clause-goes_on
returns-in-Branched-clause-goes_on g c = goes_on c.args.pool.now c.decide.new.pool c.split.new.pool c.decide.ensures.goes_on c.split.ensures.goes_on

pub returns-in-Branched-clause-prepared : goal.returns-in-Branched-clause-prepared
returns-in-Branched-clause-prepared g c =
    on_any_ok c.split.result (still_prepared c.decide.new.pool.state.state c.split.new.pool.state.state c.decide.new.worker
    (same_problem c.decide.new.pool.state c.split.new.pool.state c.split.ensures.goes_on.history) c.split.ensures.cuts c.in_ok-settlement.ensures.prepared)

pub returns-in-Branched-clause-settled : goal.returns-in-Branched-clause-settled
returns-in-Branched-clause-settled g c =
    let b = c.in-Branched.branching in
    on_both_ok c.split.result
    (λ h k. record {
      settlement = Branched b;
      decided = c.decide.new.pool.state;
      decision = subst (IsDecision c.args.worker.now.limit c.args.node c.args.pool.now.state c.decide.new.pool.state c.args.worker.now.costs c.decide.new.worker.costs) c.in-Branched.is c.in_ok-settlement.ensures.decision;
      settles = h;
      left = k
          ∙ ap (λ n. c.args.nodes.now.items ++ children n c.args.node.area b.place.column b.place.bound b.value) (ap (λ (s : State). length s.nodes) c.decide.ensures.same);
    }) c.split.ensures.made c.split.ensures.grown

pub returns-in-Branched-clause-unended : goal.returns-in-Branched-clause-unended
returns-in-Branched-clause-unended g c =
    on_err_weaker c.split.result
    (unended_both c.args.pool.now.state c.decide.new.pool.state c.split.new.pool.state
    (decision_unended _ _ c.args.pool.now.state c.decide.new.pool.state _ _ _ c.in_ok-settlement.ensures.decision)) c.split.ensures.unended

-- ---- what closes the node
pub close-requires-clause-closing : goal.close-requires-clause-closing
close-requires-clause-closing g c = closes_else c.in_ok-settlement.settlement c.in_default.not-Branched c.in_default.not-Separated

pub close-requires-clause-legal : goal.close-requires-clause-legal
close-requires-clause-legal g c =
    let s = c.args.pool.now.state.state in
    let t = c.decide.new.pool.state.state in
    let o = c.args.node in
    let there = last_node t c.args.nodes.now.items o (nodes_cuts s t (c.args.nodes.now.items ++ o ∷ []) c.decide.ensures.same c.requires.nodes) in
    subst (λ (ss : List Span). IsSettlement t ss c.in_ok-settlement.settlement) there.area c.in_ok-settlement.ensures.legal

pub returns-in_default-clause-goes_on : goal.returns-in_default-clause-goes_on
returns-in_default-clause-goes_on g c = goes_on c.args.pool.now c.decide.new.pool c.close.new.pool c.decide.ensures.goes_on c.close.ensures.goes_on

pub returns-in_default-clause-processed : goal.returns-in_default-clause-processed
returns-in_default-clause-processed g c =
    on_ok_weaker c.close.result
    (λ h.
    closing_after_cuts c.args.pool.now.budget c.args.pool.now.state.state c.decide.new.pool.state.state c.close.new.pool.state.state c.args.nodes.now.items c.args.node c.in_ok-settlement.settlement
    c.decide.ensures.same (closes_else c.in_ok-settlement.settlement c.in_default.not-Branched c.in_default.not-Separated) h.state c.requires.held c.requires.nodes) c.close.ensures.made

pub returns-in_default-clause-failed : goal.returns-in_default-clause-failed
returns-in_default-clause-failed g c =
    let s = c.args.pool.now.state.state in
    let i = c.args.node.number in
    on_err_weaker c.close.result (λ h. subst (λ u. IsHeldAlone u i) (sym h.state) (held_cuts s c.decide.new.pool.state.state i c.decide.ensures.same c.requires.held)) c.close.ensures.unmade

pub returns-in_default-clause-settled : goal.returns-in_default-clause-settled
returns-in_default-clause-settled g c =
    on_ok_weaker c.close.result
    (λ h. record {
      settlement = c.in_ok-settlement.settlement;
      decided = c.decide.new.pool.state;
      decision = c.in_ok-settlement.ensures.decision;
      settles = h;
      left = closing_left (length c.args.pool.now.state.state.nodes) c.args.node c.in_ok-settlement.settlement c.args.nodes.now.items (closes_else c.in_ok-settlement.settlement c.in_default.not-Branched c.in_default.not-Separated);
    }) c.close.ensures.made

pub returns-in_default-clause-unended : goal.returns-in_default-clause-unended
returns-in_default-clause-unended g c =
    on_err_weaker c.close.result
    (λ h. unended_both c.args.pool.now.state c.decide.new.pool.state c.close.new.pool.state
    (decision_unended _ _ c.args.pool.now.state c.decide.new.pool.state _ _ _ c.in_ok-settlement.ensures.decision) (unended_stays c.decide.new.pool.state c.close.new.pool.state h)) c.close.ensures.unmade

pub split-requires-clause-nodes : goal.split-requires-clause-nodes
split-requires-clause-nodes g c =
    nodes_cuts c.args.pool.now.state.state c.decide.new.pool.state.state (c.args.nodes.now.items ++ c.args.node ∷ []) c.decide.ensures.same c.requires.nodes
