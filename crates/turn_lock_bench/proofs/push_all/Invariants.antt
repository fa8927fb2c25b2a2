use Rattle.std.proofs.Common.{◌≡◌}
use Rattle.turn_lock.specs.Passes.{IsPassOf, names_of}
use Rattle.turn_lock_bench.proofs.push_all.Given as goal

abbrev pub invariant-loop-value : goal.invariant-loop-value
invariant-loop-value g l = IsPassOf l.lock l.pass × (names_of l.pass ≡ names_of l.initial.pass)
