use Rattle.std.proofs.Common.{◌≡◌}
use Rattle.turn_lock.specs.Passes.{IsPassOf, names_of}
use Rattle.turn_lock_bench.proofs.take_turns.Given as goal

abbrev pub invariant-loop : goal.invariant-loop
invariant-loop g l = IsPassOf l.lock l.pass × (names_of l.pass ≡ names_of l.initial.pass)
