-- How a state with its history goes on.
use Rattle.std.specs.Prelude.{◌≡◌, ℕ, List, [], ◌∷◌, ◌++◌, Option}
use Rattle.node_events.specs.declared.event.Event.{Event}
use Rattle.event_core.specs.Histories.{entries_by, state_from}
use Rattle.event_core.specs.Rooms.{Recorded}

-- the events of the worker, or of none, were applied
pub record AppliesAll (s : Recorded) (worker : Option ℕ) (events : List Event) (t : Recorded) : Type 0 where
  pub state : t.state ≡ state_from s.state (entries_by worker events)
  pub history : t.history ≡ s.history ++ entries_by worker events

-- one was
abbrev pub Applies : Recorded → Option ℕ → Event → Recorded → Type 0
Applies s worker event t = AppliesAll s worker (event ∷ []) t

-- nothing was applied
pub record AppliesNothing (s t : Recorded) : Type 0 where
  pub state : t.state ≡ s.state
  pub history : t.history ≡ s.history
