use Rattle.crew.proofs.Fronts.{front_problem}
use Rattle.crew.proofs.Leaving.{takes_front}
use Rattle.crew.proofs.steps.claim.Goals as goal

pub returns-clause-problem : goal.returns-clause-problem
returns-clause-problem g c =
    let old = g.G.PoolGate.seen c.args.gate.now in
    let new = g.G.PoolGate.seen c.take.new.gate in
    front_problem old new (takes_front (g.G.PoolGate.worker c.args.gate.now) old new c.take.result c.take.ensures.takes) c.requires.opened
