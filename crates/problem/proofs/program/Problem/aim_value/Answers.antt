use Rattle.problem.specs.Lemmas.Limited.{over_point, modest_inside, are_modest}
use Rattle.problem.proofs.program.Problem.aim_value.Goals as goal

pub value-requires-clause-columns : goal.value-requires-clause-columns
value-requires-clause-columns c = over_point c.args.self.now.spans c.args.point.now c.aim.result.now c.requires c.aim.ensures.limited.below

pub value-requires-clause-modest_point : goal.value-requires-clause-modest_point
value-requires-clause-modest_point c = modest_inside c.args.self.now.spans c.args.point.now c.limits_hold.ensures.spans c.requires

pub value-requires-clause-modest : goal.value-requires-clause-modest
value-requires-clause-modest c = are_modest _ _ c.limits_hold.ensures.few_columns c.aim.ensures.limited
