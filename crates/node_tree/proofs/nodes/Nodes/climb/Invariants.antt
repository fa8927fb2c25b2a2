use Rattle.std.proofs.Common.{◌≡◌, ◌<◌, ◌+◌, length}
use Rattle.node_tree.specs.Paths.{box_at}
use Rattle.node_tree.specs.Walks.{IsAbove}
use Rattle.node_tree.proofs.nodes.Nodes.climb.Given as goal

abbrev pub invariant-loop-at : goal.invariant-loop-at
invariant-loop-at l = record {
  here : l.at < length l.self.nodes;
  there : l.other < length l.self.nodes;
  above : IsAbove l.self l.other l.to;
  box : l.area ≡ box_at l.self l.at;
}

abbrev pub decreases-loop-at : goal.decreases-loop-at
decreases-loop-at l = l.at + l.other
