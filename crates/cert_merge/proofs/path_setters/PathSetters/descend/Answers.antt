use Rattle.std.proofs.Common.{subst, sym}
use Rattle.cert_merge.specs.Kept.{IsWay}
use Rattle.cert_merge.proofs.Keeping.{way_next}
use Rattle.cert_merge.proofs.path_setters.PathSetters.descend.Goals as goal

pub enter-requires-clause-child : goal.enter-requires-clause-child
enter-requires-clause-child c =
    let t = c.args.tree.now in
    let s = c.loop-next.self in
    (way_next t s.place c.args._node c.in-Some.next c.pop.new.self.items (subst (IsWay t s.place c.args._node) c.in-Some.ensures.items c.loop-next.invariant.way)).0

pub loop-next-preserved : goal.loop-next-preserved
loop-next-preserved c =
    let t = c.args.tree.now in
    let s = c.loop-next.self in
    record {
      kept = c.enter.ensures.kept;
      way = subst (λ p. IsWay t p c.args._node c.pop.new.self.items) (sym c.enter.ensures.down)
          (way_next t s.place c.args._node c.in-Some.next c.pop.new.self.items (subst (IsWay t s.place c.args._node) c.in-Some.ensures.items c.loop-next.invariant.way)).1;
    }
