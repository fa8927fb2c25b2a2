use Rattle.std.proofs.Common.{arith}
use Rattle.crew.proofs.Passes.{rest_count, rest_done, last_done}
use Rattle.crew.proofs.threads.join_gates.Goals as goal

pub join_gate-pass-requires-clause-gate : goal.join_gate-pass-requires-clause-gate
join_gate-pass-requires-clause-gate g c =
    last_done c.args.lock.now c.args.workers c.loop-worker.worker c.loop-worker.gates.items c.pop-in-loop-worker.new.self.items c.in-Some-pop.gate c.in-Some-pop.ensures.items
    c.loop-worker.invariant.count (omega arith) c.loop-worker.invariant.gates

pub loop-worker-preserved : goal.loop-worker-preserved
loop-worker-preserved g c = record {
  count = rest_count c.args.lock.now c.args.workers c.loop-worker.worker c.loop-worker.gates.items c.pop-in-loop-worker.new.self.items c.in-Some-pop.gate c.in-Some-pop.ensures.items
      c.loop-worker.invariant.count (omega arith) c.loop-worker.invariant.gates;
  gates = rest_done c.args.lock.now c.args.workers c.loop-worker.worker c.loop-worker.gates.items c.pop-in-loop-worker.new.self.items c.in-Some-pop.gate c.in-Some-pop.ensures.items
      c.loop-worker.invariant.count (omega arith) c.loop-worker.invariant.gates;
  pass = c.join_gate-pass.ensures;
}
