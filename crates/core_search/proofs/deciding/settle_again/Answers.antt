use Rattle.std.specs.Prelude.{IfOk}
use Rattle.std.proofs.Common.{ℕ, List, subst}
use Rattle.pseudo_cost.specs.declared.column_gains.ColumnGains.{ColumnGains}
use Rattle.core_search.specs.Visits.{IsLook}
use Rattle.core_search.proofs.deciding.settle_again.Goals as goal

pub returns-clause-looked : goal.returns-clause-looked
returns-clause-looked c =
    subst (λ (x : ℕ × List ColumnGains). IfOk c.settlement.result (λ g. IsLook x.0 0 c.args.state.now.state c.args.node.now x.1 c.settlement.new.worker.costs g))
    (λ i. (c.prepare.ensures.limit i, c.prepare.ensures.kept i)) c.settlement.ensures.looked
