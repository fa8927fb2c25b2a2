use Rattle.std.proofs.Common.{arith, refl, ◌∙◌, rules, ap, sym, nat_abs, w64, get_or}
use Rattle.std.specs.Int.{w128}
use mir.Val.{SFits}
use Rattle.std.proofs.lemmas.Int.{to_z-of_z}
use Rattle.integer_tableau.proofs.Answering.{direction_is}
use Rattle.integer_tableau.proofs.FromCode.{is_there}
use Rattle.integer_tableau.specs.Combined.{expanded_values}
use Rattle.integer_tableau.specs.Numbers.{number_at}
use Rattle.integer_tableau.proofs.integer_tableau.IntegerTableau.direction_of.Goals as goal

pub value_of-numerator-requires-clause-variable_there : goal.value_of-numerator-requires-clause-variable_there
value_of-numerator-requires-clause-variable_there c = is_there _ _ _ _ _ _ c.args.self.now c.self.invariant.0 c.self.view_is c.deref-2.result.now c.args.row c.deref-2.ensures.value c.requires

pub index-requires : goal.index-requires
index-requires c =
    omega (arith, is_there _ _ _ _ _ _ c.args.self.now c.self.invariant.0 c.self.view_is c.self.inside.positions.items c.args.row refl c.requires, c.self.inside.fixed.bounds.ok, c.self.invariant.0.consistent.bounds)

pub index-requires-2 : goal.index-requires-2
index-requires-2 c =
    omega (arith, is_there _ _ _ _ _ _ c.args.self.now c.self.invariant.0 c.self.view_is c.self.inside.positions.items c.args.row refl c.requires, c.self.inside.positions.ok)

pub index-requires-3 : goal.index-requires-3
index-requires-3 c =
    omega (
      arith,
      is_there _ _ _ _ _ _ c.args.self.now c.self.invariant.0 c.self.view_is c.self.inside.positions.items c.args.row refl c.requires,
      c.self.inside.nonbasic_values.ok,
      c.self.invariant.0.consistent.nonbasic_values,
    )

pub returns : goal.returns
returns c =
    let n = c.self.inside in
    let f : SFits w64 n.denominator = search rules in
    let x : SFits w64 c.index-3.result.now = search rules in
    let v : SFits w128 c.value_of-numerator.result = search rules in
    let d = to_z-of_z w64 n.denominator f in
    let ex = to_z-of_z w64 c.index-3.result.now x in
    let ev = to_z-of_z w128 c.value_of-numerator.result v in
    c.direction_of.ensures
    ∙ direction_is _ _ _ _ _ _ c.args.self.now c.self.invariant.0 c.self.view_is refl c.args.row
    (is_there _ _ _ _ _ _ c.args.self.now c.self.invariant.0 c.self.view_is n.positions.items c.args.row refl c.requires) _ _ _ _ _
    c.index.ensures c.index-2.ensures (ap nat_abs d)
    (ex ∙ c.index-3.ensures ∙ ap (get_or n.nonbasic_values.items c.args.row) (sym ex))
    (ev ∙ c.value_of-numerator.ensures
    ∙ (λ i. number_at (expanded_values (nat_abs (d i)) (c.deref.ensures.value i) (c.deref-2.ensures.value i) (c.deref-3.ensures.value i) (c.deref-4.ensures.value i)) c.args.row))
