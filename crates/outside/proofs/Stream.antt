-- Lemmas: what reads and writes answer.
use Rattle.std.specs.Prelude.{◌≡◌, ℕ, List, ◌++◌}

-- a list begins with another
abbrev pub Prefix : List ℕ → List ℕ → Type 0
Prefix prefix all = (rest : List ℕ) × (all ≡ prefix ++ rest)
