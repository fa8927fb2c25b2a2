use Rattle.std.proofs.Common.{◌≡◌, ◌≤◌, ◌<◌, ◌^◌, ◌∙◌, ap, sym, subst, arith, rules, Some}
use Rattle.std.specs.Prelude.{pos, ◌-ℤ◌, ◌*ℤ◌, nat_abs}
use Rattle.std.specs.Int.{w64, w128}
use Rattle.std.proofs.lemmas.Int.{to_z-of_z}
use mir.Val.{SFits, to_z, of_z}
use Rattle.fraction.specs.Rational.{frac}
use Rattle.derivation_book.proofs.IntegerPrice.{left_over}
use Rattle.derivation_book.proofs.integer_price.left_numerator.Goals as goal
use Rattle.derivation_book.specs.Sizes.{largest_left}

pub returns-then-unsigned_abs-le-LARGEST_LEFT-clause-value : goal.returns-then-unsigned_abs-le-LARGEST_LEFT-clause-value
returns-then-unsigned_abs-le-LARGEST_LEFT-clause-value c =
    let d = c.args.denominator in
    let n = c.args.numerator in
    let z = c.difference-left.result in
    let whole_fits : SFits w64 c.in-Ok.number = search rules in
    let numer_fits : SFits w128 c.numer.result = search rules in
    let left_fits : SFits w128 z = search rules in
    let wanted : to_z w64 (of_z w64 c.in-Ok.number) ≡ c.args.wanted.num =
    to_z-of_z w64 c.in-Ok.number whole_fits ∙ c.in-Ok.ensures.1 ∙ to_z-of_z w128 c.numer.result numer_fits ∙ c.numer.ensures in
    let numerator : to_z w128 (of_z w128 n) ≡ n = to_z-of_z w128 n c.ranges.numerator in
    let left : to_z w128 (of_z w128 z) ≡ z = to_z-of_z w128 z left_fits in
    left_over d c.args.wanted n z c.requires.positive c.requires.small (c.is_whole.ensures.0 c.if-not-is_whole.false)
    (subst (λ y. nat_abs (y *ℤ pos d) < 2 ^ 126) wanted c.difference-left.ensures.small)
    (subst (λ y. nat_abs y ≤ largest_left) numerator (omega (arith, c.unsigned_abs.ensures.value, c.if-unsigned_abs-gt-LARGEST_LEFT.false)))
    (c.difference-left.ensures.value ∙ (λ i. wanted i *ℤ pos d -ℤ numerator i))
    (subst (λ y. nat_abs y ≤ largest_left) left (omega (arith, c.unsigned_abs-2.ensures.value, c.if-unsigned_abs-le-LARGEST_LEFT.true)))
    ∙ ap (λ y. Some (frac y d)) (sym left)
