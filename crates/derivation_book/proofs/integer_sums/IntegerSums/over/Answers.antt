use Rattle.std.proofs.Common.{◌≡◌, ◌<◌, ◌^◌, ◌∙◌, All, ap, sym, subst, arith, rules}
use Rattle.std.specs.Int.{w128}
use Rattle.std.proofs.lemmas.Int.{to_z-of_z}
use mir.Val.{SFits}
use Rattle.fraction.specs.Rational.{whole, frac}
use Rattle.fraction.specs.Fits.{FitsFraction}
use Rattle.derivation_book.specs.Sums.{Sums, sums_of}
use Rattle.derivation_book.specs.OverOne.{over}
use Rattle.derivation_book.proofs.Numerators.{fits_fraction, all_fit, over_whole}
use Rattle.derivation_book.proofs.WholeSums.{all_over_fit, sum_over_fits}
use Rattle.derivation_book.proofs.integer_sums.IntegerSums.over.Goals as goal

pub invariant_of-result : goal.invariant_of-result
invariant_of-result c =
    let d = c.args.denominator in
    let side = c.self.inside.side in
    let side_fits : SFits w128 side = search rules in
    let small : d < 2 ^ 127 = omega (arith, c.requires.small) in
    let fit : All FitsFraction c.args.self.now.coefficients = subst (λ (q : Sums). All FitsFraction q.coefficients) c.self.view_is (all_fit c.self.inside.coefficients.items c.self.invariant.0) in (
      subst (All FitsFraction) (sym c.in_ok-coefficients.ensures) (all_over_fit d c.args.self.now.coefficients c.requires.positive small fit),
      sum_over_fits d (whole side) c.number_over.result c.requires.positive small (fits_fraction side c.self.invariant.1)
          (c.number_over.ensures ∙ ap (λ z. frac z d) (to_z-of_z w128 side side_fits) ∙ sym (over_whole d side)),
    )

pub returns : goal.returns
returns c =
    let d = c.args.denominator in
    let side = c.self.inside.side in
    let side_fits : SFits w128 side = search rules in
    let side_is : c.number_over.result ≡ over d c.args.self.now.side =
    c.number_over.ensures ∙ ap (λ z. frac z d) (to_z-of_z w128 side side_fits) ∙ sym (over_whole d side) ∙ ap (λ (q : Sums). over d q.side) c.self.view_is in
    λ i. sums_of (c.in_ok-coefficients.ensures i) (side_is i)
