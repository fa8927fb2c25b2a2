use Rattle.std.proofs.Common.{arith, refl, ◌∙◌, rules, ap, sym, nat_abs, w64}
use Rattle.std.specs.Int.{w128}
use mir.Val.{SFits}
use Rattle.std.proofs.lemmas.Int.{to_z-of_z}
use Rattle.std.proofs.lemmas.List.{get_or_default}
use Rattle.fraction.specs.Rational.{whole}
use Rattle.integer_tableau.proofs.FromCode.{is_there, near_from_code}
use Rattle.integer_tableau.proofs.ToFractions.{basic_value, nonbasic_value}
use Rattle.integer_tableau.specs.Combined.{expanded_values}
use Rattle.integer_tableau.specs.Numbers.{number_at}
use Rattle.integer_tableau.specs.declared.position.Position.TheVariants.{InBasis}
use Rattle.integer_tableau.proofs.integer_tableau.IntegerTableau.value.Goals as goal

pub index-requires : goal.index-requires
index-requires c = omega (arith, is_there _ _ _ _ _ _ c.args.self.now c.self.invariant.0 c.self.view_is c.self.inside.positions.items c.args.variable refl c.requires, c.self.inside.positions.ok)

pub value_of-numerator-requires-clause-variable_there : goal.value_of-numerator-requires-clause-variable_there
value_of-numerator-requires-clause-variable_there c = is_there _ _ _ _ _ _ c.args.self.now c.self.invariant.0 c.self.view_is c.deref-in-InBasis.result.now c.args.variable c.deref-in-InBasis.ensures.value c.requires

pub value_of-numerator-requires-clause-near : goal.value_of-numerator-requires-clause-near
value_of-numerator-requires-clause-near c =
    let n = c.self.inside in
    let f : SFits w64 n.denominator = search rules in
    near_from_code _ _ _ _ c.self.invariant.0 c.deref-in-InBasis-2.result.now c.deref-in-InBasis-3.result.now _ c.deref-in-InBasis-2.ensures.value c.deref-in-InBasis-3.ensures.value (ap nat_abs (to_z-of_z w64 n.denominator f))

pub index-requires-in-InColumn : goal.index-requires-in-InColumn
index-requires-in-InColumn c =
    omega (arith, is_there _ _ _ _ _ _ c.args.self.now c.self.invariant.0 c.self.view_is c.self.inside.positions.items c.args.variable refl c.requires, c.self.inside.nonbasic_values.ok, c.self.invariant.0.consistent.nonbasic_values)

pub returns-in-InBasis : goal.returns-in-InBasis
returns-in-InBasis c =
    let n = c.self.inside in
    let f : SFits w64 n.denominator = search rules in
    let v : SFits w128 c.value_of-numerator.result = search rules in
    let m : SFits w128 c.from.result = search rules in
    let d = to_z-of_z w64 n.denominator f in
    let there = is_there _ _ _ _ _ _ c.args.self.now c.self.invariant.0 c.self.view_is c.self.inside.positions.items c.args.variable refl c.requires in
    c.make.ensures
    ∙ basic_value _ _ _ _ _ _ c.args.self.now c.self.invariant.0 c.self.view_is refl c.args.variable there _ _
    (sym (get_or_default n.positions.items c.args.variable c.index.result.now InBasis there) ∙ sym c.index.ensures ∙ c.in-InBasis.is)
    (to_z-of_z w128 c.value_of-numerator.result v ∙ c.value_of-numerator.ensures
    ∙ (λ i. number_at (expanded_values (nat_abs (d i)) (c.deref.ensures.value i) (c.deref-in-InBasis.ensures.value i) (c.deref-in-InBasis-2.ensures.value i) (c.deref-in-InBasis-3.ensures.value i)) c.args.variable))
    (ap nat_abs (to_z-of_z w128 c.from.result m ∙ c.from.ensures ∙ d))

pub returns-in-InColumn : goal.returns-in-InColumn
returns-in-InColumn c =
    let n = c.self.inside in
    let m : SFits w128 c.from-in-InColumn.result = search rules in
    let x : SFits w64 c.index-in-InColumn.result.now = search rules in
    let there = is_there _ _ _ _ _ _ c.args.self.now c.self.invariant.0 c.self.view_is c.self.inside.positions.items c.args.variable refl c.requires in
    c.of.ensures
    ∙ ap whole (to_z-of_z w128 c.from-in-InColumn.result m ∙ c.from-in-InColumn.ensures ∙ to_z-of_z w64 c.index-in-InColumn.result.now x)
    ∙ nonbasic_value _ _ _ _ _ _ c.args.self.now c.self.invariant.0 c.self.view_is refl c.args.variable there c.index-in-InColumn.result.now c.in-InColumn.field-0
    (sym (get_or_default n.positions.items c.args.variable c.index.result.now InBasis there) ∙ sym c.index.ensures ∙ c.in-InColumn.is) c.index-in-InColumn.ensures
