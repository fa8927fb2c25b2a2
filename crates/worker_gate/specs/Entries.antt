-- A pool's list of entries: what it was when the list began, and what happened since.
use Rattle.std.specs.Prelude.{ℕ, Bool, true, false, List, [], ◌∷◌, ◌++◌, map, Option, Some, None}
use Rattle.problem.specs.Problem.{Problem}
use Rattle.problem.specs.declared.objective_sense.ObjectiveSense.TheVariants.{Minimise}
use Rattle.event_core.specs.declared.entry.Entry.{Entry}
use Rattle.event_core.specs.States.{State, first_state}
use Rattle.event_core.specs.Histories.{state_from}
use Rattle.event_core.specs.Rooms.{Recorded}
use Rattle.node_pool.specs.declared.halt.Halt.{Halt}
use Rattle.worker_gate.specs.declared.entry.Opening.{Opening}
use Rattle.worker_gate.specs.declared.entry.PoolEntry.{PoolEntry}
use Rattle.worker_gate.specs.declared.entry.PoolEntry.TheVariants.{Opened, Happened, Halted}

-- whose entry it is: the worker of an event; an opening and a halt are nobody's
abbrev pub name_of : PoolEntry → Option ℕ
name_of (Opened o) = None
name_of (Happened e) = e.worker
name_of (Halted h) = None

-- events as entries
abbrev pub happened : List Entry → List PoolEntry
happened es = map Happened es

-- what stands for the opening of a list that has none
abbrev pub no_problem : Problem
no_problem = record { names = []; rows = []; objective = []; sense = Minimise; spans = [] }

-- stands for the state of a list without an opening
abbrev pub no_state : Recorded
no_state = record { state = first_state no_problem; history = []; room = record { splits = 0; nodes = 0; cuts = 0; holds = 0 }; entries = 0 }

-- stands for the opening of a list without one
abbrev pub no_opening : Opening
no_opening = record { state = no_state; budget = 0; faults = 0; opened = 0; moments = []; model = []; cuts = 0; workers = 0 }

-- the list begins with an opening
abbrev pub is_opened : List PoolEntry → Bool
is_opened [] = false
is_opened (Opened o ∷ es) = true
is_opened (Happened e ∷ es) = false
is_opened (Halted h ∷ es) = false

-- that opening
abbrev pub opening_in : List PoolEntry → Opening
opening_in [] = no_opening
opening_in (Opened o ∷ es) = o
opening_in (Happened e ∷ es) = no_opening
opening_in (Halted h ∷ es) = no_opening

-- the events since, in order
abbrev pub events_in : List PoolEntry → List Entry
events_in [] = []
events_in (Opened o ∷ es) = events_in es
events_in (Happened e ∷ es) = e ∷ events_in es
events_in (Halted h ∷ es) = events_in es

-- the first halt, if there is one
abbrev pub halt_in : List PoolEntry → Option Halt
halt_in [] = None
halt_in (Opened o ∷ es) = halt_in es
halt_in (Happened e ∷ es) = halt_in es
halt_in (Halted h ∷ es) = Some h

-- the state after the events, and all events that led to it
abbrev pub state_in : List PoolEntry → State
state_in list = state_from (opening_in list).state.state (events_in list)

-- all events of the search: those before the opening, then those of the list
abbrev pub history_in : List PoolEntry → List Entry
history_in list = (opening_in list).state.history ++ events_in list
