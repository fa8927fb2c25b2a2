use Rattle.std.proofs.Common.{◌<◌, ◌+◌, length}
use Rattle.cert_merge.specs.Kept.{AreKept, IsWay}
use Rattle.cert_merge.proofs.path_setters.PathSetters.climb.Given as goal

abbrev pub invariant-loop-self : goal.invariant-loop-self
invariant-loop-self l = record {
  kept : AreKept l.tree l.self;
  there : l.other < length l.tree.nodes;
  way : IsWay l.tree l.other l.node l.way.items;
}

abbrev pub decreases-loop-self : goal.decreases-loop-self
decreases-loop-self l = l.self.place + l.other
