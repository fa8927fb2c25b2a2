-- Numerators and denominators in lowest terms.
use Rattle.std.proofs.Common.{◌≡◌, ℕ, ◌<◌}
use Rattle.std.specs.Prelude.{ℤ, nat_abs}
use Rattle.fraction.specs.Gcd.{gcd}

-- in lowest terms, over a denominator of at least 1
abbrev pub IsLowest : ℤ → ℕ → Type 0
IsLowest z d = (0 < d) × (gcd (nat_abs z) d ≡ 1)
