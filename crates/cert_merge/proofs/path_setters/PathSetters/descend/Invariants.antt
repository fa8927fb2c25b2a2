use Rattle.cert_merge.specs.Kept.{AreKept, IsWay}
use Rattle.cert_merge.proofs.path_setters.PathSetters.descend.Given as goal

abbrev pub invariant-loop-next : goal.invariant-loop-next
invariant-loop-next l = record {
  kept : AreKept l.tree l.self;
  way : IsWay l.tree l.self.place l._node l.way.items;
}

abbrev pub decreases-loop-next : goal.decreases-loop-next
decreases-loop-next l = goal.left-loop-next l
