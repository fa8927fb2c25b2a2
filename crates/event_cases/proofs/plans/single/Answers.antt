use Rattle.std.specs.Prelude.{pos}
use Rattle.std.specs.Int.{w128}
use Rattle.std.proofs.Common.{of_z, ap, ◌∙◌}
use Rattle.fraction.specs.Rational.{ℚ}
use Rattle.fraction.specs.Lemmas.Bounds.{whole_parts}
use Rattle.event_cases.proofs.plans.single.Goals as goal

pub single-requires : goal.single-requires
single-requires c = λ e. c.if-numer-eq0.false (ap (of_z w128) (c.numer.ensures ∙ ap (λ (x : ℚ). x.num) e ∙ (whole_parts (pos 0)).0))
