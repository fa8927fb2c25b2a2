-- What stays while others make entries.
use Rattle.std.specs.Prelude.{◌≡◌, ℕ, true, List, [], ◌∷◌}
use Rattle.turn_lock.specs.Lists.{GoesOn}
use Rattle.expand.specs.declared.finding.Finding.{Finding}
use Rattle.worker_gate.specs.declared.entry.PoolEntry.{PoolEntry}
use Rattle.worker_gate.specs.Entries.{name_of, is_opened}
use Rattle.worker_gate.specs.Legal.{IsLegalList}
use Rattle.worker_gate.specs.Conditions.{HoldsNone, HoldsNode, HasCuts, IsFound}

-- what a worker has to know before it asks stays so
pub record KeepsConditions (w : ℕ) (old at : List PoolEntry) : Type 0 where
  pub none : HoldsNone w old → HoldsNone w at
  pub node : (node : ℕ) → HoldsNode w node old → HoldsNode w node at
  pub cuts : (n : ℕ) → HasCuts n old → HasCuts n at
  pub found : (node : ℕ) (f : Finding) → HoldsNode w node old → IsFound node f old → IsFound node f at

-- what a worker was told of its node still holds after others' entries
abbrev pub ConditionsStay : Type 0
ConditionsStay = (w : ℕ) (old at : List PoolEntry) → is_opened old ≡ true → IsLegalList at → GoesOn name_of (w ∷ []) old at → KeepsConditions w old at
