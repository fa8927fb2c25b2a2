-- Counts of faults.
use Rattle.std.specs.Prelude.{◌≡◌, ℕ, ◌+◌, ◌≤◌, min, Bool, true, false}

-- A fault was counted since: the count is greater, or it stands at its last value (docs/DECISIONS.md, entry 8).
abbrev pub Rose : ℕ → ℕ → Type 0
Rose before now = min (before + 1) 18446744073709551615 ≤ now

-- The count after a call, by whether the call failed.
abbrev pub Counts : ℕ → ℕ → Bool → Type 0
Counts before now true = (before ≤ now) × Rose before now
Counts before now false = now ≡ before
