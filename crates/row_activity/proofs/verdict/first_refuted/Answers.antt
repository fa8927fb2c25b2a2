use Rattle.std.proofs.Common.{sym, ◌∙◌}
use Rattle.row_activity.proofs.Rows.{refuted_here, not_refuted_here}
use Rattle.row_activity.proofs.verdict.first_refuted.Goals as goal

pub returns-in-Some : goal.returns-in-Some
returns-in-Some c =
    refuted_here c.args.area.now c.args.problem.now.rows c.loop-index.index c.row.result.now _ c.row.ensures c.loop-index.invariant c.in-Some.sign (sym c.refuting_sign.ensures ∙ c.in-Some.is)

pub loop-index-preserved : goal.loop-index-preserved
loop-index-preserved c =
    not_refuted_here c.args.area.now c.args.problem.now.rows c.loop-index.index c.row.result.now _ c.row.ensures c.loop-index.invariant (sym c.refuting_sign.ensures ∙ c.in_default.is)
