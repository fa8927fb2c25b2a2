use Rattle.std.proofs.Common.{◌≡◌, Ok, ap, ◌∙◌, subst}
use Rattle.node_pool.specs.declared.answers.Claim.{Claim}
use Rattle.node_pool.specs.declared.answers.Claim.TheVariants as claim
use Rattle.worker_gate.specs.Calls.{Claims, Halts}
use Rattle.worker_gate.specs.Gates.{Stepped}
use Rattle.crew.proofs.Calling.{claimed_holds, rests, idle_held, done_over, halted_over, failed_worked}
use Rattle.crew.proofs.worker_loop.take.Goals as goal

pub returns-in-Ok-Node-clause-takes : goal.returns-in-Ok-Node-clause-takes
returns-in-Ok-Node-clause-takes g c =
    let w = g.G.PoolGate.worker c.args.gate.now in
    let old = g.G.PoolGate.seen c.args.gate.now in
    let new = g.G.PoolGate.seen c.claim.new.self in
    let same : c.claim.result ≡ Ok (claim.Node c.in-Ok-Node.node) = c.in-Ok-Node.is ∙ ap (λ (x : Claim). Ok x) c.in-Ok-Node.field-0-is in
    claimed_holds w c.in-Ok-Node.node old new (subst (λ r. Stepped w old new (Claims w r)) same c.claim.ensures.step)

pub returns-in-Ok-Idle-clause-takes : goal.returns-in-Ok-Idle-clause-takes
returns-in-Ok-Idle-clause-takes g c =
    let w = g.G.PoolGate.worker c.args.gate.now in
    let old = g.G.PoolGate.seen c.args.gate.now in
    let new = g.G.PoolGate.seen c.claim.new.self in
    let same : c.claim.result ≡ Ok claim.Idle = c.in-Ok-Idle.is ∙ ap (λ (x : Claim). Ok x) c.in-Ok-Idle.field-0-is in
    let step = subst (λ r. Stepped w old new (Claims w r)) same c.claim.ensures.step in
    (rests w old new (Claims w (Ok claim.Idle)) step c.requires.opened step.makes.does.1 c.requires.none, idle_held w old new step)

pub returns-in-Ok-Done-clause-takes : goal.returns-in-Ok-Done-clause-takes
returns-in-Ok-Done-clause-takes g c =
    let w = g.G.PoolGate.worker c.args.gate.now in
    let old = g.G.PoolGate.seen c.args.gate.now in
    let new = g.G.PoolGate.seen c.claim.new.self in
    let same : c.claim.result ≡ Ok claim.Done = c.in-Ok-Done.is ∙ ap (λ (x : Claim). Ok x) c.in-Ok-Done.field-0-is in
    let step = subst (λ r. Stepped w old new (Claims w r)) same c.claim.ensures.step in
    (rests w old new (Claims w (Ok claim.Done)) step c.requires.opened step.makes.does.1 c.requires.none, done_over w old new step)

pub returns-in-Ok-Halted-clause-takes : goal.returns-in-Ok-Halted-clause-takes
returns-in-Ok-Halted-clause-takes g c =
    let w = g.G.PoolGate.worker c.args.gate.now in
    let old = g.G.PoolGate.seen c.args.gate.now in
    let new = g.G.PoolGate.seen c.claim.new.self in
    let same : c.claim.result ≡ Ok claim.Halted = c.in-Ok-Halted.is ∙ ap (λ (x : Claim). Ok x) c.in-Ok-Halted.field-0-is in
    let step = subst (λ r. Stepped w old new (Claims w r)) same c.claim.ensures.step in
    (rests w old new (Claims w (Ok claim.Halted)) step c.requires.opened step.makes.does.1 c.requires.none, halted_over w old new step)

pub returns-in-Err-clause-takes : goal.returns-in-Err-clause-takes
returns-in-Err-clause-takes g c =
    let w = g.G.PoolGate.worker c.args.gate.now in
    let old = g.G.PoolGate.seen c.args.gate.now in
    let mid = g.G.PoolGate.seen c.claim.new.self in
    let new = g.G.PoolGate.seen c.halt.new.self in
    failed_worked w old mid new c.in-Err.field-0 c.requires.opened c.requires.none
    (subst (λ r. Stepped w old mid (Claims w r)) c.in-Err.is c.claim.ensures.step)
    (subst (λ v. Stepped v mid new Halts) c.claim.ensures.same c.halt.ensures.step)
