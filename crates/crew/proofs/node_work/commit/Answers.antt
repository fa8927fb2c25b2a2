use Rattle.std.proofs.Common.{sym, subst}
use Rattle.worker_gate.specs.Calls.{Commits}
use Rattle.worker_gate.specs.Gates.{Stepped}
use Rattle.crew.specs.WorkerSteps.{Leaves}
use Rattle.crew.proofs.Calling.{committed, refused}
use Rattle.crew.proofs.node_work.commit.Goals as goal

pub returns-in-Ok-clause-leaves : goal.returns-in-Ok-clause-leaves
returns-in-Ok-clause-leaves g c =
    let w = g.G.PoolGate.worker c.args.gate.now in
    let old = g.G.PoolGate.seen c.args.gate.now in
    let new = g.G.PoolGate.seen c.commit.new.self in
    subst (Leaves w c.args.node old new) (sym c.step_of-step.ensures)
    (committed w c.args.node c.args.finding old new c.requires.opened c.requires.holds c.in-Ok.field-0
    (subst (λ r. Stepped w old new (Commits w c.args.node c.args.finding r)) c.in-Ok.is c.commit.ensures.step))

pub returns-in-Err-clause-leaves : goal.returns-in-Err-clause-leaves
returns-in-Err-clause-leaves g c =
    let w = g.G.PoolGate.worker c.args.gate.now in
    let old = g.G.PoolGate.seen c.args.gate.now in
    let new = g.G.PoolGate.seen c.commit.new.self in
    refused w c.args.node c.args.finding old new c.requires.opened c.requires.holds c.in-Err.field-0
    (subst (λ r. Stepped w old new (Commits w c.args.node c.args.finding r)) c.in-Err.is c.commit.ensures.step)
