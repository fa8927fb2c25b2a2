-- Lemmas: a modest bound is kept as it is by the code's numbers of 64 bits.
use Rattle.std.specs.Prelude.{◌≡◌, ◌≤◌, ℤ, nat_abs}
use Rattle.std.proofs.Common.{arith, to_z, of_z, w64}
use Rattle.std.proofs.lemmas.Int.{ints, to_z-of_z}
use Rattle.problem.specs.Limits.{largest_bound}

pub kept_bound : (b : ℤ) → nat_abs b ≤ largest_bound → to_z w64 (of_z w64 b) ≡ b
kept_bound b h = grind (arith, ints, to_z-of_z, h)
