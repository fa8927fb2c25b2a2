use Rattle.std.proofs.Common.{◌∙◌, ap, arith, ◌≡◌}
use Rattle.fraction.specs.Gcd.{gcd}
use Rattle.fraction.specs.Lemmas.Gcd.{gcd_comm}
use Rattle.fraction.proofs.Shifts.{gcd_of_zero}
use Rattle.fraction.proofs.divisors.gcd_by_width.Goals as goal

pub returns-then-x-eq0 : goal.returns-then-x-eq0
returns-then-x-eq0 c = gcd_of_zero _ _ (omega (arith, c.if-x-eq0.true, c.in-Ok-Err.ensures))

pub returns-else-x-eq0 : goal.returns-else-x-eq0
returns-else-x-eq0 c = c.from-else-x-eq0.ensures ∙ c.mixed_gcd.ensures ∙ gcd_comm _ _ ∙ ap (λ a. gcd a c.args.b) (let e : c.in-Ok-Err.x ≡ c.args.a = omega (arith, c.in-Ok-Err.ensures) in e)
