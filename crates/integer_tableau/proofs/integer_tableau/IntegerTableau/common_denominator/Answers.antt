use Rattle.std.proofs.Common.{length, nat_abs, subst, rules, ap, sym, w64, to_z, of_z}
use mir.Val.{SFits}
use Rattle.std.proofs.lemmas.Int.{to_z-of_z}
use Rattle.std.specs.Prelude.{IfSome}
use Rattle.integer_tableau.specs.Combined.{IsCompact, expanded}
use Rattle.integer_tableau.specs.Denominator.{ArePartsOf, HasDenominator}
use Rattle.integer_tableau.specs.IntegerTableau.{IntegerTableau, of_parts, tableau_of}
use Rattle.integer_tableau.proofs.integer_tableau.IntegerTableau.common_denominator.Goals as goal

pub common_denominator-requires-clause-parts : goal.common_denominator-requires-clause-parts
common_denominator-requires-clause-parts c =
    let n = c.self.inside in
    let w : IntegerTableau = of_parts n.fixed.bounds.items n.positions.items n.at_upper.items n.nonbasic_values.items n.rows.items n.reduced_costs n.values.items n.denominator n.pivots in
    let f : SFits w64 n.denominator = search rules in (
      n.fixed.reach,
      w,
      subst (λ ps. IsCompact ps n.fixed.weight n.fixed.reach w) (sym c.deref.ensures.value) c.self.invariant.0,
      record { positions_are = c.deref-2.ensures.value; nonbasic_values_are = c.deref-3.ensures.value; values_are = c.deref-4.ensures.value; denominator_is = ap nat_abs (to_z-of_z w64 n.denominator f) },
    )

pub returns : goal.returns
returns c =
    let n = c.self.inside in
    let w : IntegerTableau = of_parts n.fixed.bounds.items n.positions.items n.at_upper.items n.nonbasic_values.items n.rows.items n.reduced_costs n.values.items n.denominator n.pivots in
    let f : SFits w64 n.denominator = search rules in
    let parts : ArePartsOf w c.deref-2.result.now c.deref-3.result.now c.deref-4.result.now (to_z w64 (of_z w64 n.denominator)) =
    record { positions_are = c.deref-2.ensures.value; nonbasic_values_are = c.deref-3.ensures.value; values_are = c.deref-4.ensures.value; denominator_is = ap nat_abs (to_z-of_z w64 n.denominator f) } in
    subst (λ t. IfSome c.common_denominator.result (λ d. HasDenominator d t)) c.self.view_is
    (subst (λ ps. IfSome c.common_denominator.result (λ d. HasDenominator d (tableau_of (length n.rows.items) n.fixed.numbers.items (expanded ps w)))) c.deref.ensures.value
    (c.common_denominator.ensures n.fixed.reach (length n.rows.items) n.fixed.numbers.items w (subst (λ ps. IsCompact ps n.fixed.weight n.fixed.reach w) (sym c.deref.ensures.value) c.self.invariant.0) parts))
