-- The limits of the numbers that the ends of a range are made of.
use Rattle.std.specs.Prelude.{◌*◌}
use Rattle.fraction.specs.Rational.{ℚ}
use Rattle.fraction.specs.Bounds.{Within}
use Rattle.problem.specs.Limits.{largest_bound, finest}

-- the limits of a number of the text
abbrev pub IsTextNumber : ℚ → Type 0
IsTextNumber q = Within finest (largest_bound * finest) q
