use Rattle.std.proofs.Common.{◌≡◌, ◌≤◌, ◌+◌, drop}
use Rattle.event_core.specs.Rooms.{split_count}
use Rattle.event_core.proofs.making.split_count.Given as goal

abbrev pub invariant-loop-event : goal.invariant-loop-event
invariant-loop-event l = record {
  counted : l.count + split_count (drop l.event-index l.events) ≡ split_count l.events;
  few : l.count ≤ l.event-index;
}
