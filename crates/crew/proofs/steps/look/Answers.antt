use Rattle.std.proofs.Common.{refl, sym, subst}
use Rattle.worker_gate.specs.Entries.{state_in}
use Rattle.crew.specs.Workers.{HasFirst}
use Rattle.crew.proofs.steps.look.Goals as goal

pub find-requires-clause-knows : goal.find-requires-clause-knows
find-requires-clause-knows g c =
    let s = state_in (g.G.PoolGate.seen c.args.gate.now) in
    record {
      problem = c.requires.problem;
      first = subst (λ cs. HasFirst cs s) (sym c.in_ok-worker.ensures.book) (s.cuts, refl);
      prepared = c.in_ok-worker.ensures.prepared;
    }
