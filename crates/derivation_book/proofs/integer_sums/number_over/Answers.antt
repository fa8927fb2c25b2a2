use Rattle.std.proofs.Common.{◌≡◌, ◌*ℤ◌, ◌∙◌, pos, ap, sym, rules}
use Rattle.std.specs.Int.{w64, w128}
use Rattle.std.proofs.lemmas.Int.{to_z-of_z}
use mir.Val.{SFits, to_z}
use Rattle.fraction.specs.Rational.{frac, whole}
use Rattle.derivation_book.specs.Lemmas.OneDenominator.{zero_over}
use Rattle.derivation_book.proofs.Numerators.{multiple_over}
use Rattle.derivation_book.proofs.integer_sums.number_over.Goals as goal

pub returns-then-number-eq0 : goal.returns-then-number-eq0
returns-then-number-eq0 c =
    let zero : c.args.number ≡ pos 0 = sym (to_z-of_z w128 c.args.number c.ranges.number) ∙ ap (to_z w128) c.if-number-eq0.true in
    c.of.ensures ∙ zero_over c.args.denominator c.requires.positive ∙ ap (λ z. frac z c.args.denominator) (sym zero)

pub returns-in-Some : goal.returns-in-Some
returns-in-Some c =
    let d = c.args.denominator in
    let q = c.in-Some.quotient in
    let q_fits : SFits w64 q = search rules in
    let wide_fits : SFits w128 c.from.result = search rules in
    let number : c.args.number ≡ q *ℤ pos d = sym (to_z-of_z w128 c.args.number c.ranges.number) ∙ c.in-Some.ensures in
    c.of-in-Some.ensures ∙ ap whole (to_z-of_z w128 c.from.result wide_fits ∙ c.from.ensures ∙ to_z-of_z w64 q q_fits) ∙ multiple_over q d c.requires.positive
    ∙ ap (λ z. frac z d) (sym number)
