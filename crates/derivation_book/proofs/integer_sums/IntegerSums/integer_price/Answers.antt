use Rattle.std.proofs.Common.{◌≡◌, ◌∙◌, Some, map, nat_abs, ap, sym, arith, rules}
use Rattle.std.specs.Int.{w128}
use Rattle.std.proofs.lemmas.Int.{to_z-of_z, to_z_pos}
use mir.Val.{SFits, to_z}
use Rattle.fraction.specs.Rational.{frac, whole}
use Rattle.derivation_book.specs.Sums.{Sums}
use Rattle.derivation_book.specs.OverOne.{over}
use Rattle.derivation_book.specs.Price.{with_columns}
use Rattle.derivation_book.proofs.Numerators.{over_whole}
use Rattle.derivation_book.proofs.integer_sums.IntegerSums.integer_price.Goals as goal

pub returns : goal.returns
returns c =
    let d = c.args.denominator in
    let target = c.args.target.now in
    let area = c.args.area.now in
    let side = c.self.inside.side in
    let n = c.in_ok-numerator.numerator in
    let side_fits : SFits w128 side = search rules in
    let n_fits : SFits w128 n = search rules in
    let bottom : nat_abs (to_z w128 d) ≡ d = ap nat_abs (to_z_pos w128 d (omega (arith, c.requires.small))) in
    ap (λ (q : Sums). with_columns (over d q.side) target 0 (map (over d) q.coefficients) area) (sym c.self.view_is)
    ∙ (λ i. with_columns ((over_whole d side ∙ ap (λ z. frac z d) (sym (to_z-of_z w128 side side_fits))) i) target 0 (map (over d) (map whole (sym c.deref.ensures.value i))) area)
    ∙ c.in_ok-numerator.ensures.value
    ∙ ap Some ((λ i. frac (sym (to_z-of_z w128 n n_fits) i) (sym bottom i)) ∙ sym c.make.ensures)
