use Rattle.std.proofs.Common.{ap, ◌∙◌}
use Rattle.tableau.specs.LinearProgram.{with_row}
use Rattle.tableau.proofs.Programming.{next_program}
use Rattle.tableau.proofs.program.LinearProgram.of.Goals as goal
use Rattle.problem.specs.Directions.{aim}

pub loop-i-preserved : goal.loop-i-preserved
loop-i-preserved c =
    c.in_ok-push_row.ensures.ok ∙ ap (λ p. with_row p c.row.result.now c.loop-i.i) c.loop-i.invariant
    ∙ next_program (aim c.args.problem.now) c.args.problem.now.rows c.args.area.now c.loop-i.i c.row.result.now c.row.ensures
