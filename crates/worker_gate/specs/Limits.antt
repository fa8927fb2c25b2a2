-- The limit on cuts.
use Rattle.std.specs.Prelude.{◌≤◌, ◌+◌, max, ℕ, List, length}
use Rattle.expand.specs.declared.settlement.Settlement.{Settlement}
use Rattle.expand.specs.declared.settlement.Settlement.TheVariants.{Separated, Closed, Improved, Branched}
use Rattle.worker_gate.specs.declared.entry.PoolEntry.{PoolEntry}
use Rattle.worker_gate.specs.Entries.{opening_in, state_in}

-- how many cuts there may be: those that the book takes, or those that were there
abbrev pub cuts_limit : List PoolEntry → ℕ
cuts_limit list = max (opening_in list).cuts (length (opening_in list).state.state.cuts)

-- the cuts that are to be made keep to it
abbrev pub KeepsToLimit : List PoolEntry → Settlement → Type 0
KeepsToLimit list (Separated mults) = length (state_in list).cuts + length mults ≤ cuts_limit list
KeepsToLimit list (Closed proof) = Unit {0}
KeepsToLimit list (Improved x proof) = Unit {0}
KeepsToLimit list (Branched b) = Unit {0}
