-- The record behind which payloads are in encoding 2.
use Rattle.std.specs.Prelude.{ℕ, Bool, nat_eq, List, [], ◌∷◌}
use Rattle.std.specs.Cmp.Lexicographic.{pointwise}

-- a tag, and the encoding
abbrev pub upgrade_code : List ℕ
upgrade_code = 7 ∷ 2 ∷ []

-- the payload is this record
abbrev pub is_upgrade : List ℕ → Bool
is_upgrade payload = pointwise nat_eq payload upgrade_code
