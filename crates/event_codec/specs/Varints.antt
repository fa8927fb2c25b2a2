-- Numbers in as few bytes as they need (docs/JOURNAL.md). An unsigned one is spelled as a varint of Protocol Buffers, which is the unsigned LEB128 of DWARF, but
-- never in more bytes than it needs. A signed one becomes an unsigned one first, by the zigzag of Protocol Buffers.
use Rattle.std.specs.Prelude.{ℕ, zero, suc, ◌+◌, ◌-◌, ◌*◌, ◌/◌, ◌%◌, ℤ, pos, negsuc, Bool, ◌||◌, ◌==◌, nat_lt, nat_le, if◌then◌else◌, List, [], ◌∷◌, length, Option, Some, None, option_map, slice_index}

-- ---- spelling
-- Groups of 7 bits, the lowest first, each in a byte. The top bit is set in each byte but the last. The first number is at least that of the groups behind the
-- first.
unfoldable pub groups_of_7 : ℕ → ℕ → List ℕ
groups_of_7 zero n = n ∷ []
groups_of_7 (suc k) n = if nat_lt n 128 then n ∷ [] else (n % 128 + 128) ∷ groups_of_7 k (n / 128)

-- the bytes of a number
unfoldable pub varint_code : ℕ → List ℕ
varint_code n = groups_of_7 n n

-- 0, -1, 1, -2, 2 and so on become 0, 1, 2, 3, 4 and so on
abbrev pub zigzag : ℤ → ℕ
zigzag (pos n) = 2 * n
zigzag (negsuc n) = 2 * n + 1

-- ---- reading
-- how many bytes a varint has with which these begin: those with the top bit set, and one more; none where that one isn't there
abbrev pub varint_size : List ℕ → Option ℕ
varint_size [] = None
varint_size (b ∷ bytes) = if nat_lt b 128 then Some 1 else option_map (λ n. suc n) (varint_size bytes)

-- the number of these bytes, of which each has 7 bits, the lowest first
abbrev pub varint_value : List ℕ → ℕ
varint_value [] = 0
varint_value (b ∷ bytes) = b % 128 + 128 * varint_value bytes

-- none of these bytes is left out as needless: the last isn't 0, or it is the only one
abbrev pub is_fewest : List ℕ → Bool
is_fewest bytes = nat_le (length bytes) 1 || nat_lt 0 (slice_index bytes (length bytes - 1))

-- the number that becomes this one by `zigzag`
abbrev pub from_zigzag : ℕ → ℤ
from_zigzag n = if (n % 2) == 0 then pos (n / 2) else negsuc (n / 2)
