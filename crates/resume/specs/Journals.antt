-- What the payloads of a journal stand for, and what is wrong with them.
use Rattle.std.specs.Prelude.{◌≡◌, ◌⊎◌, ℕ, suc, ◌<◌, List, [], ◌∷◌, length, take, slice_index}
use Rattle.problem.specs.Problem.{Problem}
use Rattle.event_core.specs.declared.entry.Entry.{Entry}
use Rattle.event_core.specs.Histories.{state_of}
use Rattle.event_core.specs.Rooms.{Recorded}
use Rattle.node_journal.specs.Frames.{places_from}
use Rattle.node_journal.specs.Records.{Intact, records}
use Rattle.node_pool.specs.Payloads.{model_in, with_upgrade}
use Rattle.resume.specs.Models.{IsModelOf, IsNoModel}
use Rattle.resume.specs.Events.{IsReadAs}

-- the payloads are the record of a model of the problem, and behind it those that spell these events
pub record StandsFor (p : Problem) (ps : List (List ℕ)) (es : List Entry) : Type 0 where
  pub rest : List (List ℕ)
  pub parts : ps ≡ model_in ps ∷ rest
  pub model : IsModelOf (model_in ps) p
  pub read : IsReadAs p rest es

-- some payloads stand for the problem and the history of this state
abbrev pub IsReadFrom : Recorded → Type 0
IsReadFrom c = (ps : List (List ℕ)) × StandsFor c.state.problem ps c.history

-- the same, with this record of the model
abbrev pub IsReadWith : List ℕ → Recorded → Type 0
IsReadWith model c = (ps : List (List ℕ)) × (model_in ps ≡ model) × StandsFor c.state.problem ps c.history

-- the bytes stand for the problem and events of its search
abbrev pub StandsOnDisk : Problem → List ℕ → Type 0
StandsOnDisk p c = (ps : List (List ℕ)) × (es : List Entry) × (records c ≡ Intact ps) × StandsFor p ps es

-- they stand for some problem
abbrev pub StandsForSome : List ℕ → Type 0
StandsForSome c = (p : Problem) × StandsOnDisk p c

-- The bytes are a journal without a payload, or one that stands for the problem and events of its search, each of them legal after those before it.
abbrev pub IsFreshOrStands : Problem → List ℕ → Type 0
IsFreshOrStands p c = (records c ≡ Intact []) ⊎ StandsOnDisk p c

-- the same, with this record of the model
abbrev pub IsFreshOrOf : List ℕ → Problem → List ℕ → Type 0
IsFreshOrOf model p c = (records c ≡ Intact []) ⊎ ((ps : List (List ℕ)) × (es : List Entry) × (records c ≡ Intact ps) × (model_in ps ≡ model) × StandsFor p ps es)

-- there is a first payload, and it is the record of no model; its gate stands behind the mark
pub record IsDamagedModel (ps : List (List ℕ)) (at : ℕ) : Type 0 where
  pub some : 0 < length ps
  pub none : IsNoModel (model_in ps)
  pub place : at ≡ 8

-- The payloads up to one stand for a problem and its events, and with that one they stand for no events of the problem. Its gate stands at this place.
pub record IsDamagedEvent (ps : List (List ℕ)) (at : ℕ) : Type 0 where
  pub number : ℕ
  pub inside : number < length ps
  pub problem : Problem
  pub events : List Entry
  pub before : StandsFor problem (take number ps) events
  pub none : (es : List Entry) → StandsFor problem (take (suc number) ps) es → ⊥
  pub place : at ≡ slice_index (places_from 8 ps) number

-- the journal is damaged by the payload behind the gate at this place
abbrev pub IsDamagedAt : List (List ℕ) → ℕ → Type 0
IsDamagedAt ps at = IsDamagedModel ps at ⊎ IsDamagedEvent ps at

-- the events of the payloads led to this state, in which nobody holds a node
pub record IsReplayed (ps : List (List ℕ)) (c : Recorded) : Type 0 where
  pub stands : StandsFor c.state.problem ps c.history
  pub state : c.state ≡ state_of c.state.problem c.history
  pub unheld : c.state.holds ≡ []

-- What a disk held before it was opened, and the payloads that it holds then: those that stand for the problem and these events, and now with the record of the
-- upgrade as the last one where it wasn't there.
pub record WasOpened (c : List ℕ) (p : Problem) (es : List Entry) (now : List (List ℕ)) : Type 0 where
  pub payloads : List (List ℕ)
  pub held : records c ≡ Intact payloads
  pub stands : StandsFor p payloads es
  pub is_now : now ≡ with_upgrade payloads
