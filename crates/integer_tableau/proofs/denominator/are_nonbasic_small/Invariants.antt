use Rattle.std.proofs.Common.{◌≡◌, ℕ, ◌<◌, ◌≤◌, ◌*ℤ◌, nat_abs, get_or}
use Rattle.integer_tableau.specs.Numbers.{number_at}
use Rattle.integer_tableau.specs.Range.{size_limit}
use Rattle.integer_tableau.specs.declared.position.Position.TheVariants.{InBasis, InColumn}
use Rattle.integer_tableau.proofs.denominator.are_nonbasic_small.Given as goal

abbrev pub invariant-loop-v : goal.invariant-loop-v
invariant-loop-v l = (u k : ℕ) → l.first ≤ u → u < l.v → get_or l.positions u InBasis ≡ InColumn k → nat_abs (number_at l.nonbasic_values u *ℤ l.denominator) ≤ size_limit
