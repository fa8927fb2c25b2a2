use Rattle.std.proofs.Common.{◌*◌, ◌∙◌, ap, sym, rules}
use Rattle.std.specs.Prelude.{pos, ◌*ℤ◌}
use Rattle.std.specs.Int.{w128}
use Rattle.std.proofs.lemmas.Int.{to_z-of_z}
use Rattle.std.proofs.lemmas.Option.{IfSome_then}
use mir.Val.{SFits}
use Rattle.dual_simplex.proofs.Scaling.{number_over}
use Rattle.dual_simplex.proofs.scaled_point.numerator_over.Goals as goal

pub returns-clause-value : goal.returns-clause-value
returns-clause-value c =
    let d = c.args.denominator in
    let k = c.in_ok-factor.factor in
    let fits : SFits w128 c.numer.result = search rules in
    IfSome_then c.small_multiple.result c.small_multiple.ensures.value (λ z e.
    number_over c.args.number z d k c.requires.positive (ap (λ n. k * n) (sym c.denom.ensures) ∙ c.in_ok-factor.ensures.factor)
    (e ∙ ap (λ n. n *ℤ pos k) (to_z-of_z w128 c.numer.result fits ∙ c.numer.ensures)))
