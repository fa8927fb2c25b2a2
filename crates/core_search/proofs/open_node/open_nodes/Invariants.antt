use Rattle.std.specs.Prelude.{All}
use Rattle.std.proofs.Common.{◌≡◌, ◌<◌, length}
use Rattle.node_tree.specs.Paths.{box_at}
use Rattle.core_search.specs.OpenNodes.{HasNoOrigin}
use Rattle.core_search.proofs.OpenLists.{AreOpenNodesBelow}
use Rattle.core_search.proofs.open_node.open_nodes.Given as goal

abbrev pub invariant-loop-number : goal.invariant-loop-number
invariant-loop-number l = record {
  listed : AreOpenNodesBelow l.state.state l.number l.nodes.items;
  new : All HasNoOrigin l.nodes.items;
  there : l.place < length l.tree.nodes;
  box : l.walked ≡ box_at l.tree l.place;
}
