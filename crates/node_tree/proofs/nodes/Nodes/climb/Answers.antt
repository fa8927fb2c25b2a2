use Rattle.std.proofs.Common.{ℕ, ◌+◌, ◌<◌, ◌∙◌, ap, subst, sym, refl, arith}
use Rattle.node_tree.specs.Paths.{box_at}
use Rattle.node_tree.specs.Walks.{IsAbove}
use Rattle.node_tree.proofs.Climbing.{above_up, up_smaller, up_there}
use Rattle.node_tree.proofs.nodes.Nodes.climb.Goals as goal

pub loop-at-init : goal.loop-at-init
loop-at-init c = record { here = c.requires.from_there; there = c.requires.to_there; above = (0, refl); box = c.requires.here }

pub loop-at-smaller-then-at-other : goal.loop-at-smaller-then-at-other
loop-at-smaller-then-at-other c =
    let positive : 0 < c.loop-at.at = omega arith in
    let smaller : c.leave-at.result + c.loop-at.other < c.loop-at.at + c.loop-at.other = omega (arith, c.leave-at.ensures.up, up_smaller c.args.self.now c.conditions_hold.ensures.tree c.loop-at.at positive c.loop-at.invariant.here) in
    smaller

pub loop-at-preserved-then-at-other : goal.loop-at-preserved-then-at-other
loop-at-preserved-then-at-other c =
    let t = c.args.self.now in
    record {
      here = omega (arith, c.leave-at.ensures.up, up_there t c.conditions_hold.ensures.tree c.loop-at.at c.loop-at.invariant.here);
      there = c.loop-at.invariant.there;
      above = c.loop-at.invariant.above;
      box = c.leave-at.ensures.moved ∙ ap (box_at t) (sym c.leave-at.ensures.up);
    }

pub loop-at-smaller : goal.loop-at-smaller
loop-at-smaller c =
    let positive : 0 < c.loop-at.other = omega arith in
    let smaller : c.loop-at.at + c.up-other.result < c.loop-at.at + c.loop-at.other = omega (arith, c.up-other.ensures, up_smaller c.args.self.now c.conditions_hold.ensures.tree c.loop-at.other positive c.loop-at.invariant.there) in
    smaller

pub loop-at-preserved : goal.loop-at-preserved
loop-at-preserved c =
    let t = c.args.self.now in
    let i = c.loop-at.invariant in
    record {
      here = i.here;
      there = omega (arith, c.up-other.ensures, up_there t c.conditions_hold.ensures.tree c.loop-at.other i.there);
      above = subst (λ (n : ℕ). IsAbove t n c.args.to) (sym c.up-other.ensures) (above_up t c.loop-at.other c.args.to i.above);
      box = i.box;
    }
