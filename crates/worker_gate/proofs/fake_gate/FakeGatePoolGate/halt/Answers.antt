use Rattle.worker_gate.specs.Calls.{Halts}
use Rattle.worker_gate.proofs.Turning.{step_alone, still_member}
use Rattle.worker_gate.proofs.fake_gate.FakeGatePoolGate.halt.Goals as goal

pub invariant_of-self : goal.invariant_of-self
invariant_of-self g c = record {
  member = still_member c.args.self.now.worker c.args.self.now.kin c.halt.new.self (Halts c.args.self.now.kin) c.is_legal_now.ensures (c.halt.ensures c.args.self.now.worker) c.args.self.now.member;
}

pub returns-clause-step : goal.returns-clause-step
returns-clause-step g c = step_alone c.args.self.now.worker c.args.self.now.kin c.halt.new.self Halts c.is_legal_now.ensures (c.halt.ensures c.args.self.now.worker)
