-- What a crew adds to a history.
use Rattle.std.specs.Prelude.{◌≡◌, ◌⊎◌, ◌≤◌, ℕ, true, List, [], ◌∷◌, ◌++◌, max, length, All, IsSome}
use Rattle.outside.specs.declared.disk.Disk.{Ghosts}
use Rattle.node_journal.specs.History.{ExtendsMoments}
use Rattle.node_journal.specs.Whole.{payloads_in}
use Rattle.event_core.specs.States.{open_count}
use Rattle.node_pool.specs.Payloads.{model_in}
use Rattle.node_pool.specs.declared.pool.Pool.{Pool}
use Rattle.event_core.specs.declared.entry.Entry.{Entry}
use Rattle.event_core.specs.Histories.{state_from}
use Rattle.event_core.specs.Rooms.{Recorded}
use Rattle.worker_gate.specs.Legal.{IsByOneOf}

-- the history goes on with events of workers 0 to n - 1
pub record CrewExtends (workers : ℕ) (old new : Recorded) : Type 0 where
  pub entries : List Entry
  pub history : new.history ≡ old.history ++ entries
  pub state : new.state ≡ state_from old.state entries
  pub of_workers : All (IsByOneOf workers) entries

-- The workers searched on in the pool: it goes on within its limits, nobody holds a node, and it is halted or no node is open.
pub record IsSearched {D : Type 0} {d : Ghosts D} (workers cuts : ℕ) (old new : Pool D d) : Type 0 where
  pub history : CrewExtends workers old.state new.state
  pub problem : new.state.state.problem ≡ old.state.state.problem
  pub unheld : new.state.state.holds ≡ []
  pub few_nodes : length new.state.state.nodes ≤ max old.budget (length old.state.state.nodes)
  pub few_cuts : length new.state.state.cuts ≤ max cuts (length old.state.state.cuts)
  pub over : IsSome new.halt ⊎ (open_count new.state.state ≡ 0)
  pub moments : d.tells ≡ true → ExtendsMoments (d.past old.journal.disk ++ d.now old.journal.disk ∷ []) (d.past new.journal.disk ++ d.now new.journal.disk ∷ [])
  pub model : d.tells ≡ true → model_in (payloads_in (d.now new.journal.disk)) ≡ model_in (payloads_in (d.now old.journal.disk))
  pub opened : new.journal.opened ≡ old.journal.opened
  pub budget : new.budget ≡ old.budget
  pub faults : new.faults ≡ old.faults
