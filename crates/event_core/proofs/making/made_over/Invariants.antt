use Rattle.std.proofs.Common.{◌≡◌, ◌≤◌, ◌+◌, ◌++◌, length, take, drop}
use Rattle.event_core.specs.Made.{made_for_each}
use Rattle.event_core.proofs.making.made_over.Given as goal

abbrev pub invariant-loop-event : goal.invariant-loop-event
invariant-loop-event l = record {
  made : l.all.items ++ made_for_each l.problem l.book.cuts (drop l.event-index l.events) ≡ made_for_each l.problem l.fn.book.cuts l.events;
  begun : take (length l.fn.book.cuts) l.book.cuts ≡ l.fn.book.cuts;
  room : length l.fn.book.cuts + l.fn.book.room ≤ length l.book.cuts + l.book.room;
}
