use Rattle.crew.proofs.Calling.{leaves_front, leaves_on}
use Rattle.crew.proofs.Fronts.{front_knows}
use Rattle.std.proofs.Common.{subst}
use Rattle.crew.specs.WorkerSteps.{Leaves}
use Rattle.crew.proofs.node_work.settle_once.Goals as goal

pub returns-in-Ok-clause-knows : goal.returns-in-Ok-clause-knows
returns-in-Ok-clause-knows g c other =
    let mid = g.G.PoolGate.seen c.find.new.gate in
    let new = g.G.PoolGate.seen c.commit.new.gate in
    front_knows mid new (leaves_front (g.G.PoolGate.worker c.find.new.gate) c.args.node mid new c.commit.result c.commit.ensures.leaves) c.find.ensures.holding.legal.opened
    c.args.problem.now c.find.new.worker c.in-Ok.ensures.knows

pub returns-in-Ok-clause-leaves : goal.returns-in-Ok-clause-leaves
returns-in-Ok-clause-leaves g c =
    let old = g.G.PoolGate.seen c.args.gate.now in
    let mid = g.G.PoolGate.seen c.find.new.gate in
    let new = g.G.PoolGate.seen c.commit.new.gate in
    leaves_on (g.G.PoolGate.worker c.args.gate.now) c.args.node old mid new c.commit.result c.find.ensures.holding.front
    (subst (λ w. Leaves w c.args.node mid new c.commit.result) c.find.ensures.same c.commit.ensures.leaves)
