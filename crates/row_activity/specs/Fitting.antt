-- A product and a sum that are not cramped.
use Rattle.std.specs.Prelude.{◌≡◌, ℤ, true}
use Rattle.fraction.specs.Rational.{ℚ, whole, ◌*ℚ◌}
use Rattle.fraction.specs.Checked.{add_fits, mul_fits}

-- the product of a coefficient and a number isn't cramped, nor is its sum with a total
pub record FitsWithProduct (total c : ℚ) (x : ℤ) : Type 0 where
  pub product : mul_fits c (whole x) ≡ true
  pub sum : add_fits total (c *ℚ whole x) ≡ true
