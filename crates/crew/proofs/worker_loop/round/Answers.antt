use Rattle.std.proofs.Common.{subst}
use Rattle.crew.specs.WorkerSteps.{Takes}
use Rattle.crew.proofs.Fronts.{front_knows}
use Rattle.crew.proofs.worker_loop.round.Goals as goal

pub work_on-requires-clause-knows : goal.work_on-requires-clause-knows
work_on-requires-clause-knows g c =
    let w = g.G.PoolGate.worker c.args.gate.now in
    let old = g.G.PoolGate.seen c.args.gate.now in
    let mid = g.G.PoolGate.seen c.take.new.gate in
    front_knows old mid (subst (Takes w old mid) c.in-Node.is c.take.ensures.takes).front c.requires.opened c.args.problem.now c.args.worker.now c.requires.knows

pub returns-in-Idle-clause-knows : goal.returns-in-Idle-clause-knows
returns-in-Idle-clause-knows g c other =
    let w = g.G.PoolGate.worker c.args.gate.now in
    let old = g.G.PoolGate.seen c.args.gate.now in
    let mid = g.G.PoolGate.seen c.take.new.gate in
    front_knows old mid (subst (Takes w old mid) c.in-Idle.is c.take.ensures.takes).0.front c.requires.opened c.args.problem.now c.args.worker.now c.requires.knows
