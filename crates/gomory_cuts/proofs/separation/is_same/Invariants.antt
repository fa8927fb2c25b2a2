use Rattle.std.proofs.Common.{◌≡◌, ◌≤◌, drop, length}
use Rattle.gomory_cuts.specs.Separation.{is_same}
use Rattle.gomory_cuts.proofs.separation.is_same.Given as goal

abbrev pub invariant-loop-i : goal.invariant-loop-i
invariant-loop-i l = record {
  rest : is_same (drop l.i l.a) (drop l.i l.b) ≡ is_same l.a l.b;
  within : l.i ≤ length l.b;
  below : l.i ≤ length l.a;
}
