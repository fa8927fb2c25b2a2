-- When a list of entries is legal.
use Rattle.std.specs.Prelude.{◌≡◌, ◌≤◌, ◌<◌, max, ℕ, true, List, length, All, Option, Some, None}
use Rattle.event_core.specs.declared.entry.Entry.{Entry}
use Rattle.event_core.specs.Histories.{state_of, AreLegal, AreLegalFrom}
use Rattle.event_core.specs.Rooms.{Recorded}
use Rattle.worker_gate.specs.declared.entry.PoolEntry.{PoolEntry}
use Rattle.worker_gate.specs.Entries.{is_opened, opening_in, events_in, state_in}

-- a worker's event, by one of the workers 0 to n - 1
abbrev pub IsOneOf : ℕ → Option ℕ → Type 0
IsOneOf n None = ⊥
IsOneOf n (Some w) = w < n

-- an event of one of the n workers
abbrev pub IsByOneOf : ℕ → Entry → Type 0
IsByOneOf n e = IsOneOf n e.worker

-- the events of the history are legal, and lead to the state
pub record IsRecorded (c : Recorded) : Type 0 where
  pub state : c.state ≡ state_of c.state.problem c.history
  pub legal : AreLegal c.state.problem c.history

-- The list begins with an opening, whose state its history led to. Each event since is legal in the state after those before it, and by one of
-- the workers. There are no more cuts and nodes than the opening says, or than there were.
pub record IsLegalList (list : List PoolEntry) : Type 0 where
  pub opened : is_opened list ≡ true
  pub recorded : IsRecorded (opening_in list).state
  pub events : AreLegalFrom (opening_in list).state.state (events_in list)
  pub workers : All (IsByOneOf (opening_in list).workers) (events_in list)
  pub few_cuts : length (state_in list).cuts ≤ max (opening_in list).cuts (length (opening_in list).state.state.cuts)
  pub few_nodes : length (state_in list).nodes ≤ max (opening_in list).budget (length (opening_in list).state.state.nodes)
