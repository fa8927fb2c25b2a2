-- Fractions whose parts have 127 bits.
use Rattle.std.specs.Prelude.{◌<◌, ◌^◌, nat_abs}
use Rattle.fraction.specs.Rational.{ℚ}

-- both parts have 127 bits
abbrev pub FitsFraction : ℚ → Type 0
FitsFraction x = (nat_abs x.num < 2 ^ 127) × (x.den < 2 ^ 127)
