use Rattle.pseudo_cost.proofs.Best.{with_next}
use Rattle.pseudo_cost.proofs.costs.Costs.choose.Goals as goal

pub loop-column-preserved : goal.loop-column-preserved
loop-column-preserved c =
    with_next _ _ _ _ _ _ c.loop-column.invariant c.loop-column-test.true c.requires.there c.better-best.ensures
