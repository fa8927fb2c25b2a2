-- What a worker has to know before it asks, of the list that it has seen.
use Rattle.std.specs.Prelude.{◌≡◌, ◌≤◌, ℕ, true, false, List, length}
use Rattle.event_core.specs.States.{box_of, cutoff}
use Rattle.event_core.specs.Holds.{is_holding, holds_node}
use Rattle.expand.specs.Findings.{IsTrueFinding}
use Rattle.expand.specs.declared.finding.Finding.{Finding}
use Rattle.worker_gate.specs.declared.entry.PoolEntry.{PoolEntry}
use Rattle.worker_gate.specs.Entries.{state_in}

-- the worker holds no node
abbrev pub HoldsNone : ℕ → List PoolEntry → Type 0
HoldsNone w list = is_holding (state_in list) w ≡ false

-- the worker holds this node
abbrev pub HoldsNode : ℕ → ℕ → List PoolEntry → Type 0
HoldsNode w node list = holds_node (state_in list) w node ≡ true

-- so many cuts are there
abbrev pub HasCuts : ℕ → List PoolEntry → Type 0
HasCuts n list = n ≤ length (state_in list).cuts

-- the finding holds at the node
abbrev pub IsFound : ℕ → Finding → List PoolEntry → Type 0
IsFound node f list = IsTrueFinding (state_in list).problem (state_in list).cuts (box_of (state_in list) node) (cutoff (state_in list)) f
