use Rattle.std.proofs.Common.{◌≡◌, map, take}
use Rattle.fraction.specs.Rational.{whole}
use Rattle.derivation_book.specs.OverOne.{over}
use Rattle.derivation_book.proofs.integer_sums.numbers_over.Given as goal

abbrev pub invariant-loop-number : goal.invariant-loop-number
invariant-loop-number l = l.fractions.items ≡ map (over l.denominator) (map whole (take l.number-index l.numbers))
