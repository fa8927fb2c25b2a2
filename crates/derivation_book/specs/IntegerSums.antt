-- Whole numbers that are the numerators of fractions.
use Rattle.std.specs.Prelude.{◌<◌, ◌^◌, ℤ, nat_abs}

-- the number has 127 bits
abbrev pub FitsInteger : ℤ → Type 0
FitsInteger z = nat_abs z < 2 ^ 127
