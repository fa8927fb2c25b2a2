use Rattle.std.proofs.Common.{arith, refl}
use Rattle.integer_tableau.proofs.ToFractions.{one_more, no_more, statuses_many, values_many}
use Rattle.tableau.specs.Elimination.{zero_ℚ}
use Rattle.integer_tableau.proofs.integer_tableau.IntegerTableau.all_values.Goals as goal

pub value-requires : goal.value-requires
value-requires c = omega (arith, c.loop-variable-test.true, statuses_many _ _ _ _ _ _ c.args.self.now c.self.invariant.0 c.self.view_is refl, c.self.inside.positions.ok)

pub loop-variable-preserved : goal.loop-variable-preserved
loop-variable-preserved c =
    one_more c.args.self.now.values c.loop-variable.values.items _ c.loop-variable.variable c.value.result zero_ℚ
    (omega (arith, c.loop-variable-test.true, values_many _ _ _ _ _ _ c.args.self.now c.self.invariant.0 c.self.view_is refl, c.self.inside.positions.ok)) c.loop-variable.invariant c.value.ensures c.in_ok-push.ensures.items

pub returns : goal.returns
returns c =
    no_more c.args.self.now.values c.loop-variable.values.items c.loop-variable.variable
    (omega (arith, c.loop-variable-test.false, values_many _ _ _ _ _ _ c.args.self.now c.self.invariant.0 c.self.view_is refl, c.self.inside.positions.ok)) c.loop-variable.invariant
