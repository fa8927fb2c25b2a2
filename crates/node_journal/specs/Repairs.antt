-- What a crash leaves while the end of a journal is repaired.
use Rattle.std.specs.Prelude.{◌≡◌, ℕ, ◌≤◌, List, ◌++◌, length}

-- these bytes stand first, and at most one behind them
abbrev pub IsPrefixAndOne : List ℕ → List ℕ → Type 0
IsPrefixAndOne prefix c = (rest : List ℕ) × (c ≡ prefix ++ rest) × (length rest ≤ 1)
