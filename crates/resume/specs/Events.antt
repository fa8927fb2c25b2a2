-- The events that the payloads behind the model have.
use Rattle.std.specs.Prelude.{◌≡◌, ℕ, ◌≤◌, List, ◌++◌, length, None, Some, Ok}
use Rattle.problem.specs.Problem.{Problem}
use Rattle.node_events.specs.declared.event.Event.{Event}
use Rattle.event_codec.specs.declared.enc.Enc.{Enc}
use Rattle.event_core.specs.declared.entry.Entry.{Entry}
use Rattle.event_core.specs.States.{State}
use Rattle.event_core.specs.Histories.{AreLegal, AreLegalFrom, state_of, state_from, entries_by}
use Rattle.event_core.specs.Rooms.{Recorded}
use Rattle.node_pool.specs.Payloads.{entries_in, spelled}
use Rattle.node_tree.specs.Limits.{most_nodes}

-- events of no worker, as they are read from a journal
abbrev pub read_entries : List Event → List Entry
read_entries es = entries_by None es

-- The payloads spell these events, each legal after those before it. The tree has no more nodes than it may have, after all of them and so, since it only
-- grows, after the first of them too.
pub record IsReadAs (p : Problem) (payloads : List (List ℕ)) (es : List Entry) : Type 0 where
  pub written : entries_in payloads ≡ Some es
  pub legal : AreLegal p es
  pub few : length (state_of p es).nodes ≤ most_nodes

-- The payload, in this encoding, spells these events, and those behind it are in the next one. The events are legal in this state without a worker, each after
-- those before it, and after them the tree has no more nodes than it may have.
pub record IsNextPayload (enc : Enc) (s : State) (payload : List ℕ) (es : List Event) (next : Enc) : Type 0 where
  pub read : spelled enc payload ≡ Ok (es, next)
  pub legal : AreLegalFrom s (read_entries es)
  pub few : length (state_from s (read_entries es)).nodes ≤ most_nodes

-- the payload spells no such events
abbrev pub IsNoPayload : Enc → State → List ℕ → Type 0
IsNoPayload enc s payload = (es : List Event) (next : Enc) → IsNextPayload enc s payload es next → ⊥

-- the events of the payload were applied, and those of the next one are in this encoding
pub record IsApplied (enc : Enc) (old : Recorded) (payload : List ℕ) (new : Recorded) (next : Enc) : Type 0 where
  pub events : List Event
  pub is_next : IsNextPayload enc old.state payload events next
  pub state : new.state ≡ state_from old.state (read_entries events)
  pub history : new.history ≡ old.history ++ read_entries events
