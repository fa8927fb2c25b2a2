-- Sizes from 10^20 on, by the digits.
use Rattle.std.specs.Prelude.{ℕ, suc, ◌+◌, Bool, ◌==◌, ◌&&◌, nat_lt, nat_le, if◌then◌else◌, List, [], ◌∷◌, length}

-- how many digits there are from the first one on that isn't 0
abbrev pub significant : List ℕ → ℕ
significant [] = 0
significant (c ∷ cs) = if c == 48 then significant cs else suc (length cs)

-- ---- digits before and behind a point
-- the significant digits before and behind the point, given how many there are before it
abbrev pub all_significant : ℕ → List ℕ → ℕ
all_significant count part = if count == 0 then significant part else count + length part

-- whether a number is vast, by its digits, those behind the point, and its exponent
abbrev pub vast_above : ℕ → ℕ → ℕ → Bool
vast_above s l q = nat_lt 0 s && nat_le (21 + l) (s + q)

-- s significant digits before the power of ten make at least 10^20 where l digits and q places come off again
abbrev pub vast_below : ℕ → ℕ → ℕ → Bool
vast_below s l q = nat_le (21 + l + q) s
