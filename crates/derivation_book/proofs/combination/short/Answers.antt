use Rattle.std.proofs.Common.{◌≡◌, ◌∙◌, ap, sym, rules}
use Rattle.std.specs.Int.{w64, w128}
use Rattle.std.proofs.lemmas.Int.{to_z-of_z}
use mir.Val.{SFits, to_z, of_z}
use Rattle.fraction.specs.Rational.{frac, whole}
use Rattle.fraction.specs.Lemmas.Rational.{ℚ_is}
use Rattle.derivation_book.proofs.combination.short.Goals as goal

pub returns-in-Ok : goal.returns-in-Ok
returns-in-Ok c =
    let x = c.args.number in
    let short_fits : SFits w64 c.in-Ok.short = search rules in
    let numer_fits : SFits w128 c.numer.result = search rules in
    let num : to_z w64 (of_z w64 c.in-Ok.short) ≡ x.num =
    to_z-of_z w64 c.in-Ok.short short_fits ∙ c.in-Ok.ensures.1 ∙ to_z-of_z w128 c.numer.result numer_fits ∙ c.numer.ensures in
    ℚ_is x ∙ ap (frac x.num) (c.is_whole.ensures.0 c.if-not-is_whole.false) ∙ ap whole (sym num)
