use Rattle.std.proofs.Common.{All, take, ℤ, nat_abs}
use Rattle.vipr_print.specs.Unique.{IsShort}
use Rattle.vipr_print.proofs.sizes.point_is_short.Given as goal

abbrev pub invariant-loop-number : goal.invariant-loop-number
invariant-loop-number l = All (λ (z : ℤ). IsShort (nat_abs z)) (take l.number-index l.point)
