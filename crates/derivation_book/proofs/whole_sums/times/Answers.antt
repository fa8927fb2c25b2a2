use Rattle.std.specs.Prelude.{pos}
use Rattle.std.proofs.Common.{◌≡◌, ◌*◌, ◌/◌, ◌*ℤ◌, ◌∙◌, ap, sym, arith, rules}
use Rattle.std.specs.Int.{w64, w128}
use Rattle.std.proofs.lemmas.Int.{to_z-of_z, to_z_pos}
use Rattle.std.proofs.Math.Nat.{mod-add-div, div-le_self}
use mir.Val.{SFits, to_z, of_z}
use Rattle.fraction.specs.Rational.{frac}
use Rattle.derivation_book.proofs.WholeSums.{over_multiple}
use Rattle.derivation_book.proofs.whole_sums.times.Goals as goal

pub returns : goal.returns
returns c =
    let x = c.args.factor in
    let d = c.args.denominator in
    let a = c.in-Ok.numerator in
    let p = c.in-Ok-try_from.part in
    let s = c.in_ok-scaled.scaled in
    let a_fits : SFits w64 a = search rules in
    let numer_fits : SFits w128 c.numer.result = search rules in
    let s_fits : SFits w64 s = search rules in
    let numerator : to_z w64 (of_z w64 a) ≡ x.num = to_z-of_z w64 a a_fits ∙ c.in-Ok.ensures.1 ∙ to_z-of_z w128 c.numer.result numer_fits ∙ c.numer.ensures in
    let part : p ≡ x.den = c.in-Ok-try_from.ensures.1 ∙ c.denom.ensures in
    let quotient : to_z w64 (d / p) ≡ pos (d / p) = to_z_pos w64 (d / p) (omega (arith, div-le_self d p, c.requires.small)) in
    let multiple : p * (d / p) ≡ d = omega (arith, mod-add-div d p, c.if-denominator-part-ne0.false) in
    let product : x.num *ℤ pos (d / p) ≡ to_z w64 (of_z w64 s) = (λ i. sym numerator i *ℤ sym quotient i) ∙ sym (to_z-of_z w64 s s_fits ∙ c.in_ok-scaled.ensures.1) in
    over_multiple x (d / p) d c.requires.positive (ap (λ n. n * (d / p)) (sym part) ∙ multiple) ∙ ap (λ z. frac z d) product
