use Rattle.std.proofs.Common.{subst}
use Rattle.worker_gate.specs.Calls.{Halts}
use Rattle.worker_gate.specs.Gates.{Stepped}
use Rattle.crew.proofs.Calling.{released, halt_over, halt_rests, worked_on}
use Rattle.crew.proofs.node_work.give_up.Goals as goal

pub returns-clause-worked : goal.returns-clause-worked
returns-clause-worked g c =
    let w = g.G.PoolGate.worker c.args.gate.now in
    let old = g.G.PoolGate.seen c.args.gate.now in
    let mid = g.G.PoolGate.seen c.release.new.self in
    let new = g.G.PoolGate.seen c.halt.new.self in
    let first = released w c.args.node old mid c.requires.opened c.requires.holds c.release.ensures.step in
    let second = subst (λ v. Stepped v mid new Halts) c.release.ensures.same c.halt.ensures.step in
    worked_on w old mid new first.front (halt_rests w mid new second first.legal.opened first.none)

pub returns-clause-over : goal.returns-clause-over
returns-clause-over g c =
    let w = g.G.PoolGate.worker c.args.gate.now in
    let mid = g.G.PoolGate.seen c.release.new.self in
    let new = g.G.PoolGate.seen c.halt.new.self in
    halt_over w mid new (subst (λ v. Stepped v mid new Halts) c.release.ensures.same c.halt.ensures.step)
