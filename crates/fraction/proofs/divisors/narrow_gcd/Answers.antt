use Rattle.std.proofs.Common.{◌∙◌}
use Rattle.fraction.specs.Lemmas.Gcd.{gcd_comm}
use Rattle.fraction.proofs.Shifts.{gcd_of_zero}
use Rattle.fraction.proofs.divisors.narrow_gcd.Goals as goal

pub returns-then-a-eq0 : goal.returns-then-a-eq0
returns-then-a-eq0 c = gcd_of_zero _ _ c.if-a-eq0.true ∙ c.lowered-a.ensures

pub returns-then-b-eq0 : goal.returns-then-b-eq0
returns-then-b-eq0 c = gcd_of_zero _ _ c.if-b-eq0.true ∙ c.lowered-b.ensures ∙ gcd_comm _ _ ∙ c.lowered-a.ensures

pub returns-else-b-eq0 : goal.returns-else-b-eq0
returns-else-b-eq0 c = c.shifted_gcd.ensures ∙ gcd_comm _ _ ∙ c.lowered-b.ensures ∙ gcd_comm _ _ ∙ c.lowered-a.ensures
