use Rattle.std.proofs.Common.{◌≡◌, map, take}
use Rattle.fraction.specs.Rational.{whole}
use Rattle.integer_tableau.proofs.integer_program.integers.Given as goal

abbrev pub invariant-loop-fraction : goal.invariant-loop-fraction
invariant-loop-fraction l = map whole l.numbers.items ≡ take l.fraction-index l.fractions
