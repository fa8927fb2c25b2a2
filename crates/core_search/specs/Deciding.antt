-- How the worker decides what is done with its node.
use Rattle.std.specs.Prelude.{◌≡◌, ◌≤◌, ◌+◌, max, ℕ, List, length}
use Rattle.event_core.specs.States.{State}
use Rattle.expand.specs.declared.finding.Finding.{Finding}
use Rattle.expand.specs.declared.finding.Finding.TheVariants.{Cuts}
use Rattle.expand.specs.declared.settlement.Settlement.{Settlement}
use Rattle.expand.specs.declared.settlement.Settlement.TheVariants.{Separated, Closed, Improved, Branched}
use Rattle.problem.specs.Linear.{Multipliers}

-- without room no cuts are found
abbrev pub IsLastLook : ℕ → Finding → Type 0
IsLastLook room f = room ≡ 0 → (mults : List Multipliers) → f ≡ Cuts mults → ⊥

-- without room no cuts are made
abbrev pub IsFinal : ℕ → Settlement → Type 0
IsFinal room g = room ≡ 0 → (mults : List Multipliers) → g ≡ Separated mults → ⊥

-- the state is as before, but for its cuts
abbrev pub IsSameButCuts : State → State → Type 0
IsSameButCuts old new = new ≡ record old { cuts = new.cuts }

-- the cuts that are to be made keep to the limit
abbrev pub KeepsToLimit : ℕ → State → Settlement → Type 0
KeepsToLimit limit s (Separated mults) = length s.cuts + length mults ≤ max limit (length s.cuts)
KeepsToLimit limit s (Closed proof) = Unit {0}
KeepsToLimit limit s (Improved x proof) = Unit {0}
KeepsToLimit limit s (Branched b) = Unit {0}
