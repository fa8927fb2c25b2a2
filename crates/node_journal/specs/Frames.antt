-- The bytes that a journal writes for its payloads, and where they stand.
use Rattle.std.specs.Prelude.{ℕ, ◌+◌, ◌^◌, Bool, nat_lt, List, [], ◌∷◌, ◌++◌, length, drop, map}
use Rattle.std.specs.Int.{w32, to_le_bytes}
use Rattle.node_journal.specs.Records.{mark, payload_of}

-- a payload behind an open gate
abbrev pub frame : List ℕ → List ℕ
frame p = 1 ∷ to_le_bytes w32 (length p) ++ p

-- what stands behind the gate of a payload that is the last one
abbrev pub tail_of : List ℕ → List ℕ
tail_of p = to_le_bytes w32 (length p) ++ p ++ 0 ∷ []

-- the frames of these payloads, one behind the other
abbrev pub frames_of : List (List ℕ) → List ℕ
frames_of [] = []
frames_of (p ∷ ps) = frame p ++ frames_of ps

-- the whole file of these payloads, with a closed gate at its end
abbrev pub file_of : List (List ℕ) → List ℕ
file_of ps = mark ++ frames_of ps ++ 0 ∷ []

-- the places of the gates, of which the first is given
abbrev pub places_from : ℕ → List (List ℕ) → List ℕ
places_from at [] = []
places_from at (p ∷ ps) = at ∷ places_from (at + 5 + length p) ps

-- the place of the gate at the end
abbrev pub end_of : List (List ℕ) → ℕ
end_of ps = 8 + length (frames_of ps)

-- the payloads behind gates at these places
abbrev pub payloads_at : List ℕ → List ℕ → List (List ℕ)
payloads_at file places = map (λ place. payload_of (drop place file)) places

-- a length fits its four bytes
abbrev pub has_small_length : List ℕ → Bool
has_small_length p = nat_lt (length p) (2 ^ 32)
