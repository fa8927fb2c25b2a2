use Rattle.std.proofs.Common.{arith, refl}
use Rattle.integer_tableau.proofs.ToFractions.{one_more, no_more, statuses_many}
use Rattle.tableau.specs.declared.status.BasisStatus.TheVariants.{Basic}
use Rattle.integer_tableau.proofs.integer_tableau.IntegerTableau.all_statuses.Goals as goal

pub status-requires : goal.status-requires
status-requires c = omega (arith, c.loop-variable-test.true, statuses_many _ _ _ _ _ _ c.args.self.now c.self.invariant.0 c.self.view_is refl, c.self.inside.positions.ok)

pub loop-variable-preserved : goal.loop-variable-preserved
loop-variable-preserved c =
    one_more c.args.self.now.statuses c.loop-variable.statuses.items _ c.loop-variable.variable c.status.result Basic
    (omega (arith, c.loop-variable-test.true, statuses_many _ _ _ _ _ _ c.args.self.now c.self.invariant.0 c.self.view_is refl, c.self.inside.positions.ok)) c.loop-variable.invariant c.status.ensures c.in_ok-push.ensures.items

pub returns : goal.returns
returns c =
    no_more c.args.self.now.statuses c.loop-variable.statuses.items c.loop-variable.variable
    (omega (arith, c.loop-variable-test.false, statuses_many _ _ _ _ _ _ c.args.self.now c.self.invariant.0 c.self.view_is refl, c.self.inside.positions.ok)) c.loop-variable.invariant
