-- What a rational point says, however its numbers are kept.
use Rattle.std.specs.Prelude.{List}
use Rattle.fraction.specs.Rational.{ℚ}
use Rattle.node_events.specs.declared.rational_point.Numbers.{Numbers}
use Rattle.node_events.specs.declared.rational_point.Numbers.TheVariants.{Narrow, Wide}

-- the numbers, however they are kept
abbrev pub numbers_of : Numbers → List ℚ
numbers_of (Narrow numbers) = numbers.items
numbers_of (Wide numbers) = numbers.items
