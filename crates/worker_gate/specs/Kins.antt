-- The list of a pool, by what the pool was when the list began.
use Rattle.std.specs.Prelude.{◌≡◌, ◌≤◌, ℕ, true, List, [], ◌∷◌, ◌++◌, length, take, drop, Option, Some, None}
use Rattle.outside.specs.declared.disk.Disk.{Ghosts}
use Rattle.outside.specs.declared.moment.Moment.{Moment}
use Rattle.event_core.specs.declared.entry.Entry.{Entry}
use Rattle.node_journal.specs.History.{ExtendsMoments}
use Rattle.node_journal.specs.Whole.{payloads_in}
use Rattle.node_pool.specs.Payloads.{model_in}
use Rattle.node_pool.specs.declared.halt.Halt.{Halt}
use Rattle.node_pool.specs.declared.pool.Pool.{Pool}
use Rattle.worker_gate.specs.declared.entry.Opening.{Opening}
use Rattle.worker_gate.specs.declared.entry.PoolEntry.{PoolEntry}
use Rattle.worker_gate.specs.declared.entry.PoolEntry.TheVariants.{Opened, Halted}
use Rattle.worker_gate.specs.Entries.{happened, opening_in, halt_in, state_in, history_in}
use Rattle.worker_gate.specs.Legal.{IsLegalList}
use Rattle.problem.specs.Limits.{most_cuts}

-- events behind the first so many, with the halt behind the first `stop` of all
abbrev pub entries_with : ℕ → Option Halt → ℕ → List Entry → List PoolEntry
entries_with first None stop history = happened (drop first history)
entries_with first (Some h) stop history = happened (drop first (take stop history)) ++ Halted h ∷ happened (drop stop history)

module _ {D : Type 0} {d : Ghosts D} where
  -- the moments of the pool's disk, and the model's record in its journal
  abbrev pub moments_of : Pool D d → List Moment
  moments_of pool = d.past pool.journal.disk ++ d.now pool.journal.disk ∷ []

  -- the model's text, as the journal has it
  abbrev pub model_of : Pool D d → List ℕ
  model_of pool = model_in (payloads_in (d.now pool.journal.disk))

  -- the opening of a pool with these limits
  abbrev pub opening_of : Pool D d → ℕ → ℕ → Opening
  opening_of pool cuts workers = record {
    state = pool.state;
    budget = pool.budget;
    faults = pool.faults;
    opened = pool.journal.opened;
    moments = moments_of pool;
    model = model_of pool;
    cuts = cuts;
    workers = workers;
  }

  -- The list of a pool that was `first` when the list began, and whose history had so many events when it was halted.
  abbrev pub list_of : Pool D d → Pool D d → ℕ → ℕ → ℕ → List PoolEntry
  list_of first pool stop cuts workers =
      Opened (opening_of first cuts workers) ∷ entries_with (length first.state.history) pool.halt stop pool.state.history

  -- The pool is as the list says. No moment of its disk went away, and its journal keeps the model's record.
  pub record IsPoolOf (list : List PoolEntry) (pool : Pool D d) : Type 0 where
    pub history : pool.state.history ≡ history_in list
    pub state : pool.state.state ≡ state_in list
    pub halt : pool.halt ≡ halt_in list
    pub moments : d.tells ≡ true → ExtendsMoments (opening_in list).moments (moments_of pool)
    pub model : d.tells ≡ true → model_of pool ≡ (opening_in list).model
    pub opened : pool.journal.opened ≡ (opening_in list).opened
    pub budget : pool.budget ≡ (opening_in list).budget
    pub faults : pool.faults ≡ (opening_in list).faults

  -- what a pool that lies under a lock keeps
  pub record IsKept (first pool : Pool D d) (count stop cuts workers : ℕ) : Type 0 where
    pub counted : count ≡ length first.state.history
    pub after : count ≤ stop
    pub before : stop ≤ length pool.state.history
    pub few : cuts ≤ most_cuts
    pub legal : IsLegalList (list_of first pool stop cuts workers)
    pub same : IsPoolOf (list_of first pool stop cuts workers) pool
