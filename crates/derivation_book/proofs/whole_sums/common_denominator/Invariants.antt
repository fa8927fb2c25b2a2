use Rattle.std.proofs.Common.{◌<◌}
use Rattle.derivation_book.proofs.whole_sums.common_denominator.Given as goal
use Rattle.derivation_book.specs.Sizes.{denominator_limit}

abbrev pub invariant-loop-multiplier : goal.invariant-loop-multiplier
invariant-loop-multiplier l = record { positive : 0 < l.denominator; small : l.denominator < denominator_limit }
