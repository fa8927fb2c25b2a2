use Rattle.std.proofs.Common.{◌<◌, ◌+◌, subst, sym, arith}
use Rattle.cert_merge.specs.Kept.{IsWay}
use Rattle.cert_merge.proofs.Keeping.{parent_below, parent_by, way_longer}
use Rattle.cert_merge.proofs.path_setters.PathSetters.climb.Goals as goal

pub loop-self-smaller : goal.loop-self-smaller
loop-self-smaller c =
    let b = c.branch_to-other.result in
    let smaller : c.loop-self.self.place + b.parent < c.loop-self.self.place + c.loop-self.other =
    omega (arith, parent_below c.args.tree.now c.conditions_hold.ensures.tree c.loop-self.other b c.branch_to-other.ensures) in
    smaller

pub loop-self-preserved : goal.loop-self-preserved
loop-self-preserved c =
    let t = c.args.tree.now in
    let i = c.loop-self.invariant in
    let b = c.branch_to-other.result in
    record {
      kept = i.kept;
      there = omega (arith, parent_below t c.conditions_hold.ensures.tree c.loop-self.other b c.branch_to-other.ensures, i.there);
      way = subst (IsWay t b.parent c.args.node) (sym c.in_ok-push.ensures.items)
          (way_longer t c.loop-self.other c.args.node b.parent c.loop-self.way.items i.way (parent_by t c.loop-self.other b c.branch_to-other.ensures));
    }
