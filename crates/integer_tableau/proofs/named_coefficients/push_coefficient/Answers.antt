use Rattle.std.proofs.Common.{◌≡◌, ◌≢◌, ◌<◌, ◌++◌, ◌∷◌, [], ap, sym, ◌∙◌, subst, arith, nat_abs, w64, to_z, of_z, rules, pos}
use mir.Val.{SFits}
use Rattle.std.proofs.lemmas.Int.{ints, to_z-of_z}
use Rattle.std.proofs.lemmas.List.{append_assoc}
use Rattle.fraction.specs.Rational.{frac}
use Rattle.integer_tableau.proofs.NamedCoefficients.{with_nonzero, with_zero}
use Rattle.integer_tableau.proofs.named_coefficients.push_coefficient.Goals as goal

pub returns-in_ok-push : goal.returns-in_ok-push
returns-in_ok-push c others =
    let d = nat_abs c.args.denominator in
    let z = c.numerator-numerator.result in
    let fz : SFits w64 z = search rules in
    let nonzero : z ≢ pos 0 = λ e. c.if-numerator-ne0.true (ap (of_z w64) e) in
    let some : 0 < nat_abs z = omega (arith, ints, nonzero) in
    let given = c.numerator-numerator.ensures in
    ap (λ ms. ms ++ others) c.in_ok-push.ensures.ok
    ∙ append_assoc c.args.named.now ((c.args.number, c.fraction.result) ∷ []) others
    ∙ ap (λ q. c.args.named.now ++ (c.args.number, q) ∷ others) (c.fraction.ensures ∙ (λ i. frac ((to_z-of_z w64 z fz ∙ given) i) (nat_abs (to_z-of_z w64 c.args.denominator c.ranges.denominator i))))
    ∙ ap (λ ms. c.args.named.now ++ ms) (sym (with_nonzero c.args.number d c.args.row.now c.args.position others (omega (arith, ints, c.requires)) (subst (λ n. 0 < nat_abs n) given some)))

pub returns-else-numerator-ne0 : goal.returns-else-numerator-ne0
returns-else-numerator-ne0 c others =
    let z = c.numerator-numerator.result in
    let fz : SFits w64 z = search rules in
    let none : z ≡ pos 0 = sym (to_z-of_z w64 z fz) ∙ ap (to_z w64) c.if-numerator-ne0.false in
    ap (λ ms. c.args.named.now ++ ms)
    (sym (with_zero c.args.number (nat_abs c.args.denominator) c.args.row.now c.args.position others (omega (arith, ints, c.requires)) (sym c.numerator-numerator.ensures ∙ none)))
