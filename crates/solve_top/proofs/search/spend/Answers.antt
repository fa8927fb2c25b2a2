use Rattle.std.proofs.Common.{◌∙◌, ap, length, subst}
use Rattle.core_search.specs.Laws.{SplitsHavePoints}
use Rattle.solve_top.proofs.Texts.{has_spent, few_nodes, spent_lines_are}
use Rattle.solve_top.proofs.search.spend.Goals as goal

pub returns-clause-solution : goal.returns-clause-solution
returns-clause-solution c = λ cert nothing kept.
    let k = c.conditions_hold.ensures in (
      has_spent c.args.state.now k.state _ c.requires.spent,
      few_nodes c.args.state.now k.state _ k.legal (subst SplitsHavePoints c.problem.ensures c.splits_have_points.ensures) c.requires.spent,
      nothing,
      kept,
      spent_lines_are c.args.state.now k.state _ _ _ _ (c.len.ensures ∙ ap length c.tree.ensures.nodes) (c.len-2.ensures ∙ ap length c.book.ensures)
          c.open_count.ensures c.requires.left c.in_ok-lines.ensures,
    )
