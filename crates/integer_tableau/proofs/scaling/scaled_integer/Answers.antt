use Rattle.std.proofs.Common.{◌≡◌, ap, sym, ◌∙◌, pos}
use Rattle.std.specs.Int.{w128}
use mir.Val.{SFits}
use Rattle.std.proofs.lemmas.Int.{to_z-of_z}
use Rattle.std.proofs.lemmas.Option.{IfSome_then}
use Rattle.fraction.specs.Checked.{mul_checked}
use Rattle.fraction.specs.Rational.{whole}
use Rattle.integer_tableau.proofs.ScaledNumbers.{scaled_from_product}
use Rattle.integer_tableau.proofs.scaling.scaled_integer.Goals as goal

pub returns : goal.returns
returns c =
    let f : SFits w128 c.from.result = record { sfits = c.from.type_inv } in
    let factor : c.of.result ≡ whole (pos c.args.scale) = c.of.ensures ∙ ap whole (to_z-of_z w128 c.from.result f ∙ c.from.ensures) in
    IfSome_then c.integer.result c.integer.ensures
    (λ z e. scaled_from_product c.args.fraction c.in_ok-product.product c.args.scale z c.requires (ap (mul_checked c.args.fraction) (sym factor) ∙ sym c.mul.ensures ∙ c.in_ok-product.was) e)
