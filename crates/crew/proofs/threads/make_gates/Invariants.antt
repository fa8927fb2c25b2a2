use Rattle.std.proofs.Common.{◌≡◌, ◌≤◌, ◌-◌, length}
use Rattle.std.specs.Prelude.{vec_capacity}
use Rattle.turn_lock.specs.Names.{names_below}
use Rattle.turn_lock.specs.Passes.{IsPassOf, names_of, seen_by}
use Rattle.crew.specs.Gates.{first_list, AreNewGates}
use Rattle.crew.proofs.threads.make_gates.Given as goal

abbrev pub invariant-loop-index : goal.invariant-loop-index
invariant-loop-index g l = record {
  count : length l.gates.items ≡ l.index;
  room : l.workers ≤ vec_capacity l.gates;
  gates : AreNewGates l.lock l.workers l.gates.items;
  own : IsPassOf l.lock l.rest;
  named : names_of l.rest ≡ names_below (l.workers - l.index);
  seen : seen_by l.rest ≡ first_list l.lock;
}
