use Rattle.std.proofs.Common.{◌≡◌, take}
use Rattle.dual_simplex.proofs.narrow_sums.narrow_numerators.Given as goal

abbrev pub invariant-loop-numerator : goal.invariant-loop-numerator
invariant-loop-numerator l = l.narrow.items ≡ take l.numerator-index l.numerators
