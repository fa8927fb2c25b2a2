use Rattle.std.proofs.Common.{◌≡◌, ◌-◌, length}
use Rattle.crew.specs.Gates.{AreDoneGates, IsDonePass}
use Rattle.crew.proofs.threads.join_gates.Given as goal

abbrev pub invariant-loop-worker : goal.invariant-loop-worker
invariant-loop-worker g l = record {
  count : length l.gates.items ≡ l.workers - l.worker;
  gates : AreDoneGates l.lock l.workers l.gates.items;
  pass : IsDonePass l.lock l.worker l.pass;
}
