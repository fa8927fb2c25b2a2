use Rattle.std.proofs.Common.{◌≤◌, length, sym, subst}
use Rattle.worker_gate.specs.Lemmas.Staying.{sound_in}
use Rattle.crew.proofs.node_work.find.Goals as goal
use Rattle.problem.specs.Limits.{most_cuts}

pub look-requires-clause-few : goal.look-requires-clause-few
look-requires-clause-few g c =
    subst (λ cs. length cs ≤ most_cuts) (sym c.in_ok-view.ensures.all) (sound_in (g.G.PoolGate.seen c.view.new.gate) c.view.ensures.holding.legal).few_cuts
