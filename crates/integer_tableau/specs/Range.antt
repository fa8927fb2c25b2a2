-- The range of the whole numbers that tableaus work on.
use Rattle.std.specs.Prelude.{ℕ, ◌^◌}

-- Numerators, denominators and sums of sizes are smaller than this: so the product of two has less than 2^124 in size, and the difference of two
-- products fits 127 bits.
abbrev pub size_limit : ℕ
size_limit = 2 ^ 62
