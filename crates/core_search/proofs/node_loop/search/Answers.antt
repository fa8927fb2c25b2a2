use Rattle.std.specs.Prelude.{max, refl, replicate}
use Rattle.std.proofs.Common.{◌≡◌, ◌∙◌, ◌≤◌, ap, arith, length, vec_len, subst, sym}
use Rattle.event_core.specs.Rooms.{Recorded}
use Rattle.pseudo_cost.specs.ColumnGains.{no_column_gains}
use Rattle.event_core.specs.Lemmas.Ended.{count-ended}
use Rattle.core_search.specs.OpenNodes.{AreOpenNodes}
use Rattle.core_search.specs.Processing.{IsEnding, IsExhausted}
use Rattle.core_search.specs.Workers.{IsPrepared}
use Rattle.core_search.proofs.Entering.{joined, same_problem}
use Rattle.node_pool.specs.Lemmas.Budgets.{joined_most}
use Rattle.core_search.proofs.OpenLists.{none_left}
use Rattle.core_search.proofs.Pooling.{goes_nowhere, goes_on, sound_still}
use Rattle.core_search.proofs.Stepping.{joined_within}
use Rattle.core_search.specs.Visits.{AreVisits, EndsNoNode, Visits, none, unvisited, visit, visited}
use Rattle.core_search.proofs.Visiting.{no_change, unended_stays}
use Rattle.core_search.proofs.node_loop.search.Goals as goal

pub returns-in-Some-step-clause-goes_on : goal.returns-in-Some-step-clause-goes_on
returns-in-Some-step-clause-goes_on g c =
    joined c.args.pool.now.state c.loop-node.pool.state c.step.new.pool.state c.loop-node.invariant.goes_on.history c.step.ensures.goes_on.history

pub returns-in-Some-step-clause-problem : goal.returns-in-Some-step-clause-problem
returns-in-Some-step-clause-problem g c = same_problem c.args.pool.now.state c.step.new.pool.state (returns-in-Some-step-clause-goes_on g c)

pub loop-node-preserved : goal.loop-node-preserved
loop-node-preserved g c =
    let a = c.args.pool.now in
    let b = c.loop-node.pool in
    let z = c.step.new.pool in
    let budget : b.budget ≡ a.budget = c.loop-node.invariant.goes_on.budget in
    let within = subst (λ n. length z.state.state.nodes ≤ max n (length b.state.state.nodes)) budget c.step.ensures.within_budget in
    let few = subst (λ n. length z.state.state.cuts ≤ max n (length b.state.state.cuts)) c.loop-node.invariant.limit c.step.ensures.within_cuts in
    record {
      goes_on = goes_on a b z c.loop-node.invariant.goes_on c.step.ensures.goes_on;
      sound = sound_still a b z c.loop-node.invariant.sound c.in_default-step.ensures.sound;
      unheld = c.step.ensures.unheld;
      within_budget = joined_within a.budget a.state.state b.state.state z.state.state c.loop-node.invariant.within_budget within;
      nodes = c.in_default-step.ensures.nodes;
      prepared = c.in_default-step.ensures.prepared;
      within_cuts = joined_most c.args.cuts (length a.state.state.cuts) (length b.state.state.cuts) (length z.state.state.cuts) c.loop-node.invariant.within_cuts few;
      limit = c.step.ensures.limit ∙ c.loop-node.invariant.limit;
      visits = visit b.state z.state c.loop-node.worker.costs c.step.new.worker.costs c.pop.new.self.items c.step.new.nodes.items c.in-Some.node
          (subst (AreVisits c.args.cuts a.state b.state c.loop-node.worker.costs) c.in-Some.ensures.items c.loop-node.invariant.visits)
          (subst (λ n. Visits n c.in-Some.node c.loop-node.worker.costs c.step.new.worker.costs c.pop.new.self.items c.step.new.nodes.items b.state z.state)
          c.loop-node.invariant.limit c.in_default-step.ensures.visited);
    }

pub returns-clause-problem : goal.returns-clause-problem
returns-clause-problem g c = same_problem c.args.pool.now.state c.loop-node.pool.state c.loop-node.invariant.goes_on.history

pub returns-clause-finished : goal.returns-clause-finished
returns-clause-finished g c = λ _.
    let none : vec_len c.loop-node.nodes ≡ 0 = c.in_default-pop.ensures.cases.0 in
    (none_left c.loop-node.pool.state.state c.loop-node.nodes.items (omega (arith, none, c.loop-node.nodes.ok.0)) c.loop-node.invariant.nodes, c.loop-node.invariant.sound.halt)

pub returns-in-Some-step-clause-left : goal.returns-in-Some-step-clause-left
returns-in-Some-step-clause-left g c = λ e.
    let budget = c.loop-node.pool.budget in
    let s = c.step.new.pool.state.state in
    let h : IsExhausted budget s = subst (λ x. IsEnding budget x s) e c.in-Some-step.ensures.ended in
    omega (arith, count-ended s.ended h.1.node h.1.opened)

pub returns-clause-visits : goal.returns-clause-visits
returns-clause-visits g c =
    let b = c.loop-node.pool.state in visited b c.loop-node.worker.costs c.loop-node.nodes.items c.loop-node.invariant.visits (unended_stays b b (no_change b))

pub returns-in-Some-step-clause-visits : goal.returns-in-Some-step-clause-visits
returns-in-Some-step-clause-visits g c =
    visited c.loop-node.pool.state c.loop-node.worker.costs c.loop-node.nodes.items c.loop-node.invariant.visits c.in-Some-step.ensures.broken_off

pub returns-in_default-clause-visits : goal.returns-in_default-clause-visits
returns-in_default-clause-visits g c = let a = c.args.pool.now.state in unvisited (subst (EndsNoNode a) (sym c.halt.ensures.state) (unended_stays a a (no_change a)))

pub returns-in_default-new-clause-visits : goal.returns-in_default-new-clause-visits
returns-in_default-new-clause-visits g c =
    let a = c.args.pool.now.state in unvisited (subst (EndsNoNode a) (sym c.halt-in_default-new.ensures.state) (unended_stays a a (no_change a)))

pub loop-node-init : goal.loop-node-init
loop-node-init g c =
    let a = c.args.pool.now in
    record {
      goes_on = goes_nowhere a;
      sound = record { halt = c.requires.sound; count = refl };
      unheld = c.requires.unheld;
      within_budget = omega arith;
      nodes = subst (λ (r : Recorded). AreOpenNodes r.state c.in-Ok.nodes.items) c.state.ensures c.in-Ok.ensures.listed;
      prepared = subst (λ (r : Recorded). IsPrepared r.state c.in-Ok-new.worker) c.state-2.ensures c.in-Ok-new.ensures.prepared;
      within_cuts = omega arith;
      limit = c.in-Ok-new.ensures.limit;
      visits = subst (λ costs. AreVisits c.args.cuts a.state a.state costs c.in-Ok.nodes.items)
          (sym (c.in-Ok-new.ensures.costs ∙ ap (λ (r : Recorded). replicate (length r.state.problem.spans) no_column_gains) c.state-2.ensures))
          (none c.in-Ok.nodes.items (subst (λ (r : Recorded). AreOpenNodes r.state c.in-Ok.nodes.items) c.state.ensures c.in-Ok.ensures.listed) c.in-Ok.ensures.new);
    }
