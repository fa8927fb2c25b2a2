use Rattle.std.proofs.Common.{◌≡◌, ◌++◌}
use Rattle.std.specs.Vec.Iter.{into_iter_items}
use Rattle.event_core.specs.Histories.{entries_by, state_from, AreLegalFrom}
use Rattle.event_core.specs.Rooms.{AreReady}
use Rattle.event_core.specs.Made.{made_for_each}
use Rattle.event_core.proofs.state.State.apply_all.Given as goal

abbrev pub invariant-loop-event : goal.invariant-loop-event
invariant-loop-event l = record {
  legal : AreLegalFrom l.self.state (entries_by l.fn.worker (into_iter_items l.event-iterator));
  ready : AreReady l.self (into_iter_items l.event-iterator);
  made : into_iter_items l.made ≡ made_for_each l.self.state.problem l.self.state.cuts (into_iter_items l.event-iterator);
  state : state_from l.self.state (entries_by l.fn.worker (into_iter_items l.event-iterator)) ≡ state_from l.fn.self.state (entries_by l.fn.worker l.fn.events.items);
  history : l.self.history ++ entries_by l.fn.worker (into_iter_items l.event-iterator) ≡ l.fn.self.history ++ entries_by l.fn.worker l.fn.events.items;
}
