use Rattle.std.proofs.Common.{◌≡◌, ◌<◌, map, get_or, arith, rules, pos, nat_abs, ap, sym, subst, ◌∙◌, w64, to_z, of_z, None}
use Rattle.std.specs.Int.{w128}
use mir.Val.{SFits}
use Rattle.std.proofs.lemmas.Int.{to_z-of_z}
use Rattle.std.proofs.lemmas.List.{get_or-map}
use Rattle.fraction.specs.Rational.{frac, whole}
use Rattle.integer_tableau.proofs.FromCode.{violation_back}
use Rattle.integer_tableau.specs.IntegerTableau.{fraction_bounds}
use Rattle.integer_tableau.specs.Numbers.{number_at}
use Rattle.integer_tableau.specs.declared.integer_bounds.IntegerBounds.{IntegerBounds}
use Rattle.tableau.specs.Leaving.{unbounded, violation, violated_bound}
use Rattle.integer_tableau.proofs.pivot.exchange_of.Goals as goal

pub returns-clause-size : goal.returns-clause-size
returns-clause-size c =
    let fs : SFits w64 c.in_ok-size.size = search rules in
    let fp : SFits w64 c.numerator-pivot.result = search rules in
    to_z-of_z w64 c.in_ok-size.size fs ∙ c.in_ok-size.ensures.0 ∙ ap (λ z. pos (nat_abs z)) (to_z-of_z w64 c.numerator-pivot.result fp ∙ c.numerator-pivot.ensures)

pub returns-clause-there : goal.returns-clause-there
returns-clause-there c =
    let k = c.in-InColumn.column in
    let r = c.args.leaving in
    let own_bounds : IntegerBounds = get_or c.args.bounds.now r (record { lower = None; upper = None }) in
    let fp : SFits w64 c.numerator-pivot.result = search rules in
    let fb : SFits w64 c.violated-bound.result = search rules in
    let d_is = to_z-of_z w64 c.args.denominator c.ranges.denominator in
    let p_is : to_z w64 (of_z w64 c.numerator-pivot.result) ≡ number_at c.args.leaving_row.now k = to_z-of_z w64 c.numerator-pivot.result fp ∙ c.numerator-pivot.ensures in
    let own_bounds_is : get_or (map fraction_bounds c.args.bounds.now) r unbounded ≡ fraction_bounds own_bounds =
    get_or-map fraction_bounds c.args.bounds.now r (record { lower = None; upper = None }) unbounded (omega (arith, c.requires.leaving_there, c.requires.bounds_there)) in
    record {
      entering = c.in-InColumn.is;
      leaving = c.requires.basic;
      coefficient = subst (λ z. 0 < nat_abs z) p_is c.in_ok-size.ensures.1;
      direction =
          ap (λ b. violation b (frac c.args.value (nat_abs c.args.denominator))) own_bounds_is
          ∙ violation_back own_bounds _ _ _ _ c.violation.result c.in_ok-direction.direction (to_z-of_z w128 c.args.value c.ranges.value) d_is c.violation.ensures c.in_ok-direction.was;
      bound = ap (violated_bound c.in_ok-direction.direction) own_bounds_is ∙ c.violated-bound.ensures ∙ ap whole (sym (to_z-of_z w64 c.violated-bound.result fb));
    }
