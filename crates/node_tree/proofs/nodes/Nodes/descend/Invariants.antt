use Rattle.std.proofs.Common.{◌≡◌, ◌<◌, length}
use Rattle.node_tree.specs.Paths.{box_at}
use Rattle.node_tree.specs.Walks.{IsAbove}
use Rattle.node_tree.proofs.Meets.{meet, IsBoxIn}
use Rattle.node_tree.proofs.nodes.Nodes.descend.Given as goal

abbrev pub invariant-loop-at : goal.invariant-loop-at
invariant-loop-at l = record {
  here : l.at < length l.self.nodes;
  above : IsAbove l.self l.top l.at;
  left : meet l.area (box_at l.self l.at) ≡ box_at l.self l.node;
  within : IsBoxIn l.area (box_at l.self l.top);
}

abbrev pub decreases-loop-at : goal.decreases-loop-at
decreases-loop-at l = l.at
