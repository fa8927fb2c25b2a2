-- What each call of a gate is: the list that it found, and the entries that it made there.
use Rattle.std.specs.Prelude.{◌≡◌, ℕ, List, [], ◌∷◌, ◌++◌}
use Rattle.turn_lock.specs.Lists.{GoesOn, OwnOrNone}
use Rattle.worker_gate.specs.declared.entry.PoolEntry.{PoolEntry}
use Rattle.worker_gate.specs.Entries.{name_of}
use Rattle.worker_gate.specs.Legal.{IsLegalList}

-- A call that found a list made entries behind it, after which the list is legal. Each entry is the worker's or nobody's.
pub record Makes (w : ℕ) (at new : List PoolEntry) (Made : List PoolEntry → Type 0) : Type 0 where
  pub own : List PoolEntry
  pub all : new ≡ at ++ own
  pub legal : IsLegalList new
  pub named : OwnOrNone name_of (w ∷ []) own
  pub does : Made own

-- A call of a worker's gate: it found a legal list that goes on from what was seen, by entries that aren't the worker's, and made entries there.
pub record Stepped (w : ℕ) (old new : List PoolEntry) (Made : List PoolEntry → List PoolEntry → Type 0) : Type 0 where
  pub at : List PoolEntry
  pub goes_on : GoesOn name_of (w ∷ []) old at
  pub found : IsLegalList at
  pub makes : Makes w at new (Made at)
