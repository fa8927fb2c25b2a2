-- Events in the order in which they came.
use Rattle.std.specs.Prelude.{◌≡◌, ℕ, Bool, true, false, if◌then◌else◌, List, [], ◌∷◌, map, Option, Some, None}
use Rattle.problem.specs.Problem.{Problem}
use Rattle.node_events.specs.declared.event.Event.{Event}
use Rattle.node_events.specs.declared.event.Event.TheVariants.{Claim, Release, Cut, Offer, Split, Close}
use Rattle.event_core.specs.declared.entry.Entry.{Entry}
use Rattle.event_core.specs.declared.admit.Admit.TheVariants.{Yes}
use Rattle.event_core.specs.States.{State, first_state}
use Rattle.event_core.specs.Judging.{judged}
use Rattle.event_core.specs.After.{after}

-- a journal has the events that are no claim and no release
abbrev pub is_journaled : Event → Bool
is_journaled (Claim i) = false
is_journaled (Release i) = false
is_journaled (Cut mult) = true
is_journaled (Offer x) = true
is_journaled (Split i j b reason) = true
is_journaled (Close i proof) = true

-- without a worker, an event stands only where nobody holds a node, and is no claim and no release
abbrev pub MayStand : State → Option ℕ → Event → Type 0
MayStand s None e = (s.holds ≡ []) × (is_journaled e ≡ true)
MayStand s (Some w) e = Unit {0}

-- the event is admitted, and may stand there
pub record IsLegal (s : State) (worker : Option ℕ) (event : Event) : Type 0 where
  pub admitted : judged s worker event ≡ Yes
  pub stands : MayStand s worker event

-- events of this worker, or of none
abbrev pub entries_by : Option ℕ → List Event → List Entry
entries_by worker es = map (λ (e : Event). record { worker = worker; event = e }) es

-- the state after a list of events, from a state
abbrev pub state_from : State → List Entry → State
state_from s [] = s
state_from s (e ∷ es) = state_from (after s e.worker e.event) es

-- each event is legal in the state that those before it left
abbrev pub AreLegalFrom : State → List Entry → Type 0
AreLegalFrom s [] = Unit {0}
AreLegalFrom s (e ∷ es) = IsLegal s e.worker e.event × AreLegalFrom (after s e.worker e.event) es

-- the state after these events
abbrev pub state_of : Problem → List Entry → State
state_of p es = state_from (first_state p) es

-- each event is legal in the state after those before it
abbrev pub AreLegal : Problem → List Entry → Type 0
AreLegal p es = AreLegalFrom (first_state p) es

-- the events that a journal has, in order, each without a worker
abbrev pub journaled : List Entry → List Entry
journaled [] = []
journaled (e ∷ es) = if is_journaled e.event then record { worker = None; event = e.event } ∷ journaled es else journaled es
