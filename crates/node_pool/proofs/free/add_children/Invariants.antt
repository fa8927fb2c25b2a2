use Rattle.std.proofs.Common.{◌≡◌, ◌≤◌, ◌<◌, ◌+◌, ◌*◌, ◌^◌, ◌++◌, drop, vec_len, vec_capacity}
use Rattle.event_core.specs.Rooms.{split_count}
use Rattle.node_pool.specs.Free.{children_of_all}
use Rattle.node_pool.proofs.free.add_children.Given as goal

abbrev pub invariant-loop-event : goal.invariant-loop-event
invariant-loop-event l = record {
  items : l.free.items ++ children_of_all (drop l.event-index l.events) l.next ≡ l.fn.free.items ++ children_of_all l.events l.number;
  capacity : vec_capacity l.free ≡ vec_capacity l.fn.free;
  room : vec_len l.free + 2 * split_count (drop l.event-index l.events) ≤ vec_capacity l.free;
  few : l.next + 2 * split_count (drop l.event-index l.events) < 2 ^ 32;
}
