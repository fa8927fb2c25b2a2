use Rattle.std.proofs.Common.{◌^◌, ◌<◌, ◌≤◌, ◌+ℤ◌, ◌*ℤ◌, pos, w64, to_z, of_z, nat_abs, get_or, get_or-set_same, arith, ap, subst, ◌∙◌, rules}
use mir.Val.{SFits}
use Rattle.std.specs.Int.{int_wrap}
use Rattle.std.proofs.lemmas.Int.{to_z-of_z}
use Rattle.integer_tableau.specs.Numbers.{number_at}
use Rattle.integer_tableau.proofs.LowProducts.{exact_at}
use Rattle.integer_tableau.proofs.narrow.substitute_at.Goals as goal

pub returns-clause-exact : goal.returns-clause-exact
returns-clause-exact c = λ e q p r fits a b.
    let at = c.args.at in
    let d = c.args.divisor in
    let x = number_at c.args.row.now at in
    let s = number_at c.args.source.now at in
    let sum = c.low_sum-sum.result in
    let t = to_z w64 (of_z w64 c.shifted.result) in
    let fx : SFits w64 (get_or c.args.row.now at (pos 0)) = search rules in
    let fs : SFits w64 (get_or c.args.source.now at (pos 0)) = search rules in
    let fy : SFits w64 c.low_sum-sum.result = search rules in
    let ft : SFits w64 c.shifted.result = search rules in
    let there : 0 < c.args.divisor.reach = omega (arith, a) in
    let back_sum = to_z-of_z w64 sum fy in
    let row_back = to_z-of_z w64 c.args.row_quotient c.ranges.row_quotient ∙ p in
    let source_back = to_z-of_z w64 c.args.source_quotient c.ranges.source_quotient ∙ r in
    let is = c.low_sum-sum.ensures ∙ (λ j. int_wrap w64 (to_z-of_z w64 x fx j *ℤ row_back j +ℤ to_z-of_z w64 s fs j *ℤ source_back j)) in
    ap (λ z. z *ℤ d.number) (get_or-set_same c.args.row.now at t (pos 0) c.requires.within_row)
    ∙ exact_at d.number d.odd d.inverse x e s q sum t d.zeros d.reach (d.parts there) (d.inverts there) d.within is
    (subst (λ z. nat_abs z ≤ c.args.divisor.reach) back_sum (c.raised.ensures.size a))
    (ap (λ z. z *ℤ pos (2 ^ c.args.divisor.zeros)) (to_z-of_z w64 c.shifted.result ft) ∙ c.shifted.ensures (c.raised.ensures.whole d.zeros d.few_zeros d.reach_whole b) ∙ back_sum)
    fits
