-- The journal's file format (own): the mark BNCJRNL1; then frames of a gate of one byte, a length of four bytes, the
-- lowest first, and a payload of so many bytes; and one gate at the end. A gate is open exactly where it is 1 and is not
-- the last byte of the file.
use Rattle.std.specs.Prelude.{ℕ, zero, suc, ◌+◌, Bool, ◌&&◌, nat_eq, nat_le, nat_lt, if◌then◌else◌, List, [], ◌∷◌, length, take, drop, slice_index}
use Rattle.std.specs.List.{starts_with}
use Rattle.std.specs.Int.{w32, from_le_bytes}

-- the mark, BNCJRNL1 in ASCII
abbrev pub mark : List ℕ
mark = 66 ∷ 78 ∷ 67 ∷ 74 ∷ 82 ∷ 78 ∷ 76 ∷ 49 ∷ []

-- what a file holds
pub data Records : Type 0 where
  Intact : List (List ℕ) → Records
  Foreign : Records
  BrokenAt : ℕ → Records

-- These speak of the bytes from a gate on. The gate is open.
abbrev pub is_gate_open : List ℕ → Bool
is_gate_open rest = nat_lt 1 (length rest) && nat_eq (slice_index rest 0) 1

-- the length that stands behind it
abbrev pub size_at : List ℕ → ℕ
size_at rest = from_le_bytes w32 (slice_index rest 1 ∷ slice_index rest 2 ∷ slice_index rest 3 ∷ slice_index rest 4 ∷ [])

-- its frame lies in the file whole
abbrev pub is_whole : List ℕ → Bool
is_whole rest = nat_le (5 + size_at rest) (length rest)

-- its payload
abbrev pub payload_of : List ℕ → List ℕ
payload_of rest = take (size_at rest) (drop 5 rest)

-- one more payload before the others
abbrev pub with_first : List ℕ → Records → Records
with_first p (Intact ps) = Intact (p ∷ ps)
with_first p Foreign = Foreign
with_first p (BrokenAt place) = BrokenAt place

-- The frames from a gate on, which stands at this place, up to the first that is closed. The first number is at least
-- that of the frames.
abbrev pub read_frames : ℕ → ℕ → List ℕ → Records
read_frames zero place rest = Intact []
read_frames (suc n) place rest =
    if is_gate_open rest
    then (if is_whole rest then with_first (payload_of rest) (read_frames n (place + 5 + size_at rest) (drop (5 + size_at rest) rest)) else BrokenAt place)
    else Intact []

-- What a file holds. At most 9 bytes are an empty journal, whatever they are.
abbrev pub records : List ℕ → Records
records file =
    if nat_le (length file) 9
    then Intact []
    else (if starts_with nat_eq file mark then read_frames (length file) 8 (drop 8 file) else Foreign)

-- the payloads of what a file holds, none where it is no journal
abbrev pub payloads_held : Records → List (List ℕ)
payloads_held (Intact ps) = ps
payloads_held Foreign = []
payloads_held (BrokenAt place) = []
