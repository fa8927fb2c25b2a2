use Rattle.std.proofs.Common.{◌≡◌, true}
use Rattle.worker_gate.specs.Conditions.{HoldsNone}
use Rattle.worker_gate.specs.Entries.{is_opened, state_in}
use Rattle.crew.specs.Lists.{IsFront}
use Rattle.crew.specs.Workers.{Knows}
use Rattle.crew.proofs.worker_loop.go_on.Given as goal

abbrev pub invariant-loop : goal.invariant-loop
invariant-loop g l = record {
  same : g.G.PoolGate.worker l.gate ≡ g.G.PoolGate.worker l.initial.gate;
  stays : g.G.PoolGate.home l.gate ≡ g.G.PoolGate.home l.initial.gate;
  front : IsFront (g.G.PoolGate.seen l.initial.gate) (g.G.PoolGate.seen l.gate);
  opened : is_opened (g.G.PoolGate.seen l.gate) ≡ true;
  none : HoldsNone (g.G.PoolGate.worker l.gate) (g.G.PoolGate.seen l.gate);
  knows : Knows l.problem l.worker (state_in (g.G.PoolGate.seen l.gate));
}
