use Rattle.std.proofs.Common.{◌∙◌, sym, ap, subst, arith, length}
use Rattle.std.specs.Prelude.{All}
use Rattle.problem.specs.Limited.{IsModestSpan, IsLimited}
use Rattle.expand.specs.Verdicts.{IsPart}
use Rattle.expand.specs.Lemmas.Inside.{box_columns, box_modest, box_part}
use Rattle.core_search.proofs.open_node.node_conditions_hold.Goals as goal

pub returns-clause-columns : goal.returns-clause-columns
returns-clause-columns c = ap length c.requires.area ∙ box_columns c.args.state.now.state c.conditions_hold.ensures.sound.tree c.args.node.now.number

pub returns-clause-few : goal.returns-clause-few
returns-clause-few c =
    let limits : IsLimited c.args.state.now.state.problem = subst IsLimited c.problem-problem.ensures c.limits_hold.ensures in
    omega (arith, returns-clause-columns c, limits.few_columns)

pub returns-clause-modest : goal.returns-clause-modest
returns-clause-modest c =
    subst (All IsModestSpan) (sym c.requires.area)
    (box_modest c.args.state.now.state c.conditions_hold.ensures.sound.tree c.args.node.now.number (subst IsLimited c.problem-problem.ensures c.limits_hold.ensures))

pub returns-clause-part : goal.returns-clause-part
returns-clause-part c = subst (IsPart c.args.state.now.state.problem) (sym c.requires.area) (box_part c.args.state.now.state c.conditions_hold.ensures.sound.tree c.args.node.now.number)
