-- What the worker adds to a history.
use Rattle.std.specs.Prelude.{◌≡◌, ◌≤◌, ℕ, true, List, [], ◌∷◌, ◌++◌, All, Some}
use Rattle.node_events.specs.declared.event.Event.{Event}
use Rattle.node_events.specs.declared.event.Event.TheVariants.{Claim}
use Rattle.event_core.specs.declared.entry.Entry.{Entry}
use Rattle.event_core.specs.States.{State, is_open}
use Rattle.event_core.specs.After.{after}
use Rattle.event_core.specs.Histories.{state_from}
use Rattle.event_core.specs.Rooms.{Recorded}

-- an event of worker 0
abbrev pub IsOfWorker : Entry → Type 0
IsOfWorker e = e.worker ≡ Some 0

-- no open node has a greater number
abbrev pub IsGreatest : State → ℕ → Type 0
IsGreatest s i = (k : ℕ) → is_open s k ≡ true → k ≤ i

-- no open node has a greater number than one that is claimed
abbrev pub IsGreatestIfClaim : State → Event → Type 0
IsGreatestIfClaim s (Claim i) = IsGreatest s i
IsGreatestIfClaim s e = Unit {0}

-- each claim is of the open node of greatest number
abbrev pub AreGreatestClaims : State → List Entry → Type 0
AreGreatestClaims s [] = Unit {0}
AreGreatestClaims s (e ∷ es) = IsGreatestIfClaim s e.event × AreGreatestClaims (after s e.worker e.event) es

-- the history goes on with events of worker 0, who claims the open node of greatest number each time
pub record ExtendsHistory (old new : Recorded) : Type 0 where
  pub entries : List Entry
  pub history : new.history ≡ old.history ++ entries
  pub state : new.state ≡ state_from old.state entries
  pub of_worker : All IsOfWorker entries
  pub greatest : AreGreatestClaims old.state entries
