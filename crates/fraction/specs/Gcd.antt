-- The greatest common divisor, as a function.
use Rattle.std.proofs.Common.{ℕ, zero, suc, ◌%◌}

-- Euclid's steps, at most this many
unfoldable pub gcd_within : ℕ → ℕ → ℕ → ℕ
gcd_within zero a b = a
gcd_within (suc k) a zero = a
gcd_within (suc k) a (suc b) = gcd_within k (suc b) (a % suc b)

-- the greatest common divisor, by Euclid's algorithm, which ends within b + 1 steps
unfoldable pub gcd : ℕ → ℕ → ℕ
gcd a b = gcd_within (suc b) a b
