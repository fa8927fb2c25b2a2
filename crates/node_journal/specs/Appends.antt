-- What a crash leaves while a payload is added.
use Rattle.std.specs.Prelude.{◌≡◌, ◌⊎◌, ℕ, List, [], ◌∷◌, ◌++◌}
use Rattle.node_journal.specs.Records.{records, Intact}

-- the file holds these payloads, or these and one more
abbrev pub IsWithOrWithout : List (List ℕ) → List ℕ → List ℕ → Type 0
IsWithOrWithout ps p file = (records file ≡ Intact ps) ⊎ (records file ≡ Intact (ps ++ p ∷ []))
