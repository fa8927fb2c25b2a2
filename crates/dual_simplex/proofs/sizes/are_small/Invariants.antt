use Rattle.std.proofs.Common.{ℕ, All, take}
use Rattle.fraction.specs.Rational.{ℚ}
use Rattle.dual_simplex.specs.Sizes.{IsIntegerTo, largest_integer}
use Rattle.dual_simplex.proofs.sizes.are_small.Given as goal

abbrev pub invariant-loop-term : goal.invariant-loop-term
invariant-loop-term l = All (λ (t : ℕ × ℚ). IsIntegerTo largest_integer t.1) (take l.term-index l.terms)
