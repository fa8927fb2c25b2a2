use Rattle.std.proofs.Common.{◌≡◌, ◌<◌, length}
use Rattle.node_tree.specs.Paths.{path_at, setting}
use Rattle.node_tree.proofs.tree.Tree.setting.Given as goal

abbrev pub invariant-loop-branch : goal.invariant-loop-branch
invariant-loop-branch l = record { there : l.at < length l.self.nodes; same : setting l.column l.side (path_at l.self l.at) ≡ setting l.column l.side (path_at l.self l.node) }

abbrev pub decreases-loop-branch : goal.decreases-loop-branch
decreases-loop-branch l = l.at
