use Rattle.std.proofs.Common.{◌≡◌, map, take}
use Rattle.fraction.specs.Rational.{whole}
use Rattle.integer_tableau.proofs.conversion.whole_numbers.Given as goal

abbrev pub invariant-loop-number : goal.invariant-loop-number
invariant-loop-number l = l.all.items ≡ map whole (take l.number-index l.numbers)
