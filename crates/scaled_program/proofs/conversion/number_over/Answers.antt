use Rattle.std.proofs.Common.{◌≡◌, ap, ◌∙◌, pos, nat_abs}
use Rattle.std.specs.Int.{w128}
use mir.Val.{SFits}
use Rattle.std.proofs.lemmas.Int.{to_z-of_z}
use Rattle.fraction.specs.Checked.{mul_checked}
use Rattle.fraction.specs.Rational.{frac}
use Rattle.scaled_program.proofs.Numbers.{over_is}
use Rattle.scaled_program.proofs.conversion.number_over.Goals as goal

pub returns : goal.returns
returns c =
    let f : SFits w128 c.from.result = record { sfits = c.from.type_inv } in
    let unit : c.make.result ≡ frac (pos 1) c.args.unit = c.make.ensures ∙ ap (λ z. frac (pos 1) (nat_abs z)) (to_z-of_z w128 c.from.result f ∙ c.from.ensures) in
    over_is c.args.unit c.args.number c.mul.result (c.mul.ensures ∙ ap (mul_checked c.args.number) unit)
