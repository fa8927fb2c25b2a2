use Rattle.std.proofs.Common.{◌≡◌, ◌-◌, ◌≤◌, ◌++◌, true, length, take}
use Rattle.outside.proofs.whole_sink.write_all.Given as goal

abbrev pub invariant-loop-at : goal.invariant-loop-at
invariant-loop-at g l = (g.C.Sink.faults l.sink ≡ g.C.Sink.faults l.fn.sink) × (l.at ≤ length l.bytes) × (g.C.Sink.tells ≡ true → g.C.Sink.taken l.sink ≡ g.C.Sink.taken l.fn.sink ++ take l.at l.bytes)

abbrev pub decreases-loop-at : goal.decreases-loop-at
decreases-loop-at g l = length l.bytes - l.at
