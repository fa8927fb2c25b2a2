use Rattle.std.proofs.Common.{◌≤◌, vec_len, vec_capacity}
use Rattle.node_pool.proofs.FreeNodes.{AreOpenBelow}
use Rattle.node_pool.proofs.free.free_nodes.Given as goal

abbrev pub invariant-loop-number : goal.invariant-loop-number
invariant-loop-number l = record {
  nodes : AreOpenBelow l.state.state l.number l.nodes.items;
  room : l.count ≤ vec_capacity l.nodes;
  size : vec_len l.nodes ≤ l.number;
}
