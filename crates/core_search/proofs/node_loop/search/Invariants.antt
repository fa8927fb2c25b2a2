use Rattle.std.proofs.Common.{◌≡◌, [], ◌≤◌, length}
use Rattle.std.specs.Prelude.{max}
use Rattle.core_search.specs.OpenNodes.{AreOpenNodes, work_left}
use Rattle.core_search.specs.Pools.{PoolGoesOn, StaysSound}
use Rattle.core_search.specs.Visits.{AreVisits}
use Rattle.core_search.specs.Workers.{IsPrepared}
use Rattle.core_search.proofs.node_loop.search.Given as goal

abbrev pub invariant-loop-node : goal.invariant-loop-node
invariant-loop-node g l = record {
  goes_on : PoolGoesOn l.fn.pool l.pool;
  sound : StaysSound l.fn.pool l.pool;
  unheld : l.pool.state.state.holds ≡ [];
  within_budget : length l.pool.state.state.nodes ≤ max l.fn.pool.budget (length l.fn.pool.state.state.nodes);
  nodes : AreOpenNodes l.pool.state.state l.nodes.items;
  prepared : IsPrepared l.pool.state.state l.worker;
  within_cuts : length l.pool.state.state.cuts ≤ max l.cuts (length l.fn.pool.state.state.cuts);
  limit : l.worker.limit ≡ l.cuts;
  visits : AreVisits l.cuts l.fn.pool.state l.pool.state l.worker.costs l.nodes.items;
}

abbrev pub decreases-loop-node : goal.decreases-loop-node
decreases-loop-node g l = work_left l.fn.pool.budget l.pool.state.state l.nodes.items
