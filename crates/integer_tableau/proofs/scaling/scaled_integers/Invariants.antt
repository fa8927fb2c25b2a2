use Rattle.std.proofs.Common.{◌≡◌, map, take}
use Rattle.fraction.specs.Rational.{whole}
use Rattle.integer_tableau.specs.Scales.{scaled_by}
use Rattle.integer_tableau.proofs.scaling.scaled_integers.Given as goal

abbrev pub invariant-loop-fraction : goal.invariant-loop-fraction
invariant-loop-fraction l = map (λ z. scaled_by 1 l.scale (whole z)) l.numbers.items ≡ take l.fraction-index l.fractions
