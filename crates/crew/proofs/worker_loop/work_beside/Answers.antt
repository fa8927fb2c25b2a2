use Rattle.std.proofs.Common.{refl, sym, subst}
use Rattle.worker_gate.specs.Entries.{state_in}
use Rattle.crew.specs.Workers.{HasFirst}
use Rattle.crew.proofs.Calling.{halt_over, halt_rests}
use Rattle.crew.proofs.worker_loop.work_beside.Goals as goal

pub returns-in_default-clause-worked : goal.returns-in_default-clause-worked
returns-in_default-clause-worked g c =
    halt_rests (g.G.PoolGate.worker c.args.gate.now) (g.G.PoolGate.seen c.args.gate.now) (g.G.PoolGate.seen c.halt.new.self) c.halt.ensures.step c.requires.opened c.requires.none

pub returns-in_default-clause-over : goal.returns-in_default-clause-over
returns-in_default-clause-over g c =
    halt_over (g.G.PoolGate.worker c.args.gate.now) (g.G.PoolGate.seen c.args.gate.now) (g.G.PoolGate.seen c.halt.new.self) c.halt.ensures.step

pub go_on-requires-clause-knows : goal.go_on-requires-clause-knows
go_on-requires-clause-knows g c =
    let s = state_in (g.G.PoolGate.seen c.args.gate.now) in
    record {
      problem = c.requires.problem;
      first = subst (λ cs. HasFirst cs s) (sym c.in-Ok.ensures.book) (s.cuts, refl);
      prepared = c.in-Ok.ensures.prepared;
    }
