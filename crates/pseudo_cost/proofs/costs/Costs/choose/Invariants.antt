use Rattle.pseudo_cost.proofs.Best.{IsBestOfFirst}
use Rattle.pseudo_cost.proofs.costs.Costs.choose.Given as goal

abbrev pub invariant-loop-column : goal.invariant-loop-column
invariant-loop-column l = IsBestOfFirst l.self l.columns l.column-index l.best
