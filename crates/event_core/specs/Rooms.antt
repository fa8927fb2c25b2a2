-- A state with its history, and the room that there is for events.
use Rattle.std.specs.Prelude.{◌≡◌, ◌<◌, ◌≤◌, ◌+◌, ◌*◌, ℕ, List, [], ◌∷◌, length}
use Rattle.std.specs.List.{count_by}
use Rattle.node_events.specs.declared.event.Event.{Event}
use Rattle.node_events.specs.declared.event.Event.TheVariants.{Claim, Release, Cut, Split}
use Rattle.event_core.specs.declared.entry.Entry.{Entry}
use Rattle.event_core.specs.States.{State}
use Rattle.event_core.specs.Frames.{is_split}
use Rattle.node_tree.specs.Limits.{most_nodes}

-- how many splits, nodes, cuts and holds fit without memory
pub record Rooms : Type 0 where
  pub splits : ℕ
  pub nodes : ℕ
  pub cuts : ℕ
  pub holds : ℕ

-- a state, and its room
pub record Standing : Type 0 where
  pub state : State
  pub room : Rooms

-- a state with its history, its room, and how many entries of the history fit without memory
pub record Recorded : Type 0 where
  pub state : State
  pub history : List Entry
  pub room : Rooms
  pub entries : ℕ

-- ---- one event
-- the nodes of a split are few enough
abbrev pub HasNumbers : State → Event → Type 0
HasNumbers s (Split i j b reason) = length s.nodes + 2 ≤ most_nodes
HasNumbers s e = Unit {0}

-- an entry for the event, one for the release of a node that it claims, and one for the release of each node that is held; a release has its own since its claim
abbrev pub HasEntryRoom : State → ℕ → Event → Type 0
HasEntryRoom s n (Release i) = Unit {0}
HasEntryRoom s n e = length s.holds + 2 ≤ n

-- the room that an event takes is there
abbrev pub HasRoom : Rooms → Event → Type 0
HasRoom r (Claim i) = 0 < r.holds
HasRoom r (Cut mult) = 0 < r.cuts
HasRoom r (Split i j b reason) = (0 < r.splits) × (2 ≤ r.nodes)
HasRoom r e = Unit {0}

-- There is room for the event. What has to be made for it is told apart from this (`made_for`).
pub record IsReady (c : Recorded) (e : Event) : Type 0 where
  pub numbers : HasNumbers c.state e
  pub entries : HasEntryRoom c.state c.entries e
  pub room : HasRoom c.room e

-- ---- a list of events, one after another
-- how many nodes are split
abbrev pub split_count : List Event → ℕ
split_count es = count_by is_split es

-- the room that the events take is there
pub record HasRoomFor (r : Rooms) (es : List Event) : Type 0 where
  pub splits : split_count es ≤ r.splits
  pub nodes : 2 * split_count es ≤ r.nodes
  pub cuts : length es ≤ r.cuts
  pub holds : length es ≤ r.holds

-- there is room for the events, each after those before it
pub record AreReady (c : Recorded) (es : List Event) : Type 0 where
  pub numbers : length c.state.nodes + 2 * split_count es ≤ most_nodes
  pub entries : length c.state.holds + 2 * length es ≤ c.entries
  pub room : HasRoomFor c.room es

-- ---- how the room changes
-- no room is lost
pub record KeepsRooms (old new : Rooms) : Type 0 where
  pub splits : old.splits ≤ new.splits
  pub nodes : old.nodes ≤ new.nodes
  pub cuts : old.cuts ≤ new.cuts
  pub holds : old.holds ≤ new.holds

-- No room is lost, and the state and its history stay: so what was ready stays so.
pub record StaysReady (old new : Recorded) : Type 0 where
  pub state : new.state ≡ old.state
  pub history : new.history ≡ old.history
  pub rooms : KeepsRooms old.room new.room
  pub entries : old.entries ≤ new.entries

-- no more room is lost than the event takes
pub record LeavesRooms (old : Rooms) (e : Event) (new : Rooms) : Type 0 where
  pub splits : old.splits ≤ new.splits + split_count (e ∷ [])
  pub nodes : old.nodes ≤ new.nodes + 2 * split_count (e ∷ [])
  pub cuts : old.cuts ≤ new.cuts + 1
  pub holds : old.holds ≤ new.holds + 1
