use Rattle.std.proofs.Common.{arith, ◌≡◌, ◌⊎◌, inl, inr, ℕ}
use Rattle.fraction.specs.Gcd.{gcd}
use Rattle.fraction.specs.Lemmas.Gcd.{gcd_pos, gcd_le}
use Rattle.fraction.proofs.Shifts.{gcd_with_one, gcd_with_same}
use Rattle.fraction.proofs.divisors.short_gcd.Goals as goal

at_once : (a b : ℕ) → (b ≡ 1) ⊎ ((b ≡ 1 → ⊥) × (a ≡ b)) → b ≡ gcd a b
at_once a b (inl e) = gcd_with_one a b e
at_once a b (inr e) = gcd_with_same a b e.1

pub returns-then-a-b-clause-value : goal.returns-then-a-b-clause-value
returns-then-a-b-clause-value c = at_once _ _ c.if-a-b.either

pub returns-else-a-b-clause-positive : goal.returns-else-a-b-clause-positive
returns-else-a-b-clause-positive c = omega (arith, c.narrow_gcd.ensures, gcd_pos c.args.a c.args.b c.requires)

pub returns-else-a-b-clause-at_most : goal.returns-else-a-b-clause-at_most
returns-else-a-b-clause-at_most c = omega (arith, c.narrow_gcd.ensures, gcd_le c.args.a c.args.b c.requires)
