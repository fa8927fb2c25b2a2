use Rattle.std.proofs.Common.{◌≡◌, ◌++◌, take, drop, map}
use Rattle.fraction.specs.Rational.{neg_ℚ}
use Rattle.tableau.proofs.answers.negate.Given as goal

abbrev pub invariant-loop-number : goal.invariant-loop-number
invariant-loop-number l = map neg_ℚ l.initial.numbers ≡ take l.number-index l.numbers ++ map neg_ℚ (drop l.number-index l.numbers)
