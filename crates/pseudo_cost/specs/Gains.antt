-- By how much the aim of a child is above its parent's.
use Rattle.std.specs.Prelude.{ℕ, ◌^◌, ℤ, pos, negsuc, min, Option}
use Rattle.std.specs.Option.{option_map, option_and_then}
use Rattle.fraction.specs.Rational.{ℚ, whole, floor}
use Rattle.fraction.specs.Checked.{sub_checked, mul_checked}

-- the largest gain; it is also noted for a child whose linear program is infeasible
abbrev pub largest_gain : ℕ
largest_gain = 10 ^ 9

-- a whole number, held within 0 and the largest gain
abbrev pub held : ℤ → ℕ
held (pos n) = min n largest_gain
held (negsuc n) = 0

-- the gain of a child's value over its parent's: floor(1000 (value - parent)), held; none exactly where an operation is cramped
abbrev pub gain : ℚ → ℚ → Option ℕ
gain value parent =
    option_map (λ scaled. held (floor scaled)) (option_and_then (λ change. mul_checked (whole (pos 1000)) change) (sub_checked value parent))
