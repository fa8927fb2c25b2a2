use Rattle.std.proofs.Common.{◌∙◌, rules, ap, refl, sym, w64}
use Rattle.std.specs.Int.{w128}
use mir.Val.{SFits}
use Rattle.std.proofs.lemmas.Int.{to_z-of_z}
use Rattle.fraction.specs.Rational.{frac, whole}
use Rattle.fraction.specs.Lemmas.Rational.{ℚ_is}
use Rattle.integer_tableau.proofs.integer_program.integer.Goals as goal

pub returns-in-Ok : goal.returns-in-Ok
returns-in-Ok c =
    let f : SFits w64 c.in-Ok.number = search rules in
    let g : SFits w128 c.numer.result = record { sfits = c.numer.type_inv } in
    ap whole (to_z-of_z w64 c.in-Ok.number f ∙ c.in-Ok.ensures.1 ∙ to_z-of_z w128 c.numer.result g ∙ c.numer.ensures)
    ∙ sym (ℚ_is c.args.fraction ∙ ap (frac c.args.fraction.num) (c.if-not-is_whole.ensures.0 refl))
