use Rattle.std.proofs.Common.{arith, refl, ap, ◌∙◌, [], length}
use Rattle.integer_tableau.proofs.Answering.{row_short}
use Rattle.integer_tableau.proofs.ToFractions.{one_more, no_more, statuses_many, rows_many}
use Rattle.integer_tableau.proofs.integer_tableau.IntegerTableau.all_rows.Goals as goal

pub coefficients_from-requires-clause-variable_there : goal.coefficients_from-requires-clause-variable_there
coefficients_from-requires-clause-variable_there c = omega (arith, c.loop-variable-test.true, statuses_many _ _ _ _ _ _ c.args.self.now c.self.invariant.0 c.self.view_is refl, c.self.inside.positions.ok)

pub push-requires : goal.push-requires
push-requires c =
    omega (
      arith,
      ap length (c.deref.ensures.value ∙ c.in_ok-row.ensures),
      row_short _ _ _ _ _ _ c.args.self.now c.self.invariant.0 c.self.view_is refl c.loop-variable.variable (omega (arith, c.loop-variable-test.true, c.self.inside.positions.ok)),
      statuses_many _ _ _ _ _ _ c.args.self.now c.self.invariant.0 c.self.view_is refl,
      c.requires,
    )

pub loop-variable-preserved : goal.loop-variable-preserved
loop-variable-preserved c =
    one_more c.args.self.now.rows c.loop-variable.rows _ c.loop-variable.variable c.deref.result.now []
    (omega (arith, c.loop-variable-test.true, rows_many _ _ _ _ _ _ c.args.self.now c.self.invariant.0 c.self.view_is refl, c.self.inside.positions.ok)) c.loop-variable.invariant (c.deref.ensures.value ∙ c.in_ok-row.ensures) c.in_ok-push.ensures.ok

pub returns : goal.returns
returns c =
    no_more c.args.self.now.rows c.loop-variable.rows c.loop-variable.variable
    (omega (arith, c.loop-variable-test.false, rows_many _ _ _ _ _ _ c.args.self.now c.self.invariant.0 c.self.view_is refl, c.self.inside.positions.ok)) c.loop-variable.invariant
