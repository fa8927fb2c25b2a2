-- How a worker's list goes on, by any number of calls of its gate.
use Rattle.std.specs.Prelude.{◌≡◌, ◌⊎◌, ℕ, List, ◌++◌, IsSome}
use Rattle.event_core.specs.States.{open_count}
use Rattle.worker_gate.specs.declared.entry.PoolEntry.{PoolEntry}
use Rattle.worker_gate.specs.Conditions.{HoldsNone, HoldsNode}
use Rattle.worker_gate.specs.Entries.{halt_in, state_in}
use Rattle.worker_gate.specs.Legal.{IsLegalList}

-- the list begins with the old one
abbrev pub IsFront : List PoolEntry → List PoolEntry → Type 0
IsFront old new = (rest : List PoolEntry) × (new ≡ old ++ rest)

-- a legal list that begins with what the worker had seen, and the worker holds no node
pub record Worked (w : ℕ) (old new : List PoolEntry) : Type 0 where
  pub front : IsFront old new
  pub legal : IsLegalList new
  pub none : HoldsNone w new

-- a legal list that begins with what the worker had seen, and the worker holds this node
pub record IsHolding (w node : ℕ) (old new : List PoolEntry) : Type 0 where
  pub front : IsFront old new
  pub legal : IsLegalList new
  pub holds : HoldsNode w node new

-- the pool is halted, or no node is open
abbrev pub IsOver : List PoolEntry → Type 0
IsOver list = IsSome (halt_in list) ⊎ (open_count (state_in list) ≡ 0)
