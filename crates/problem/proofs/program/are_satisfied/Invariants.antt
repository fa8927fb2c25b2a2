use Rattle.std.proofs.Common.{take}
use Rattle.std.specs.Prelude.{All}
use Rattle.problem.specs.Rows.{Satisfies}
use Rattle.problem.proofs.program.are_satisfied.Given as goal

abbrev pub invariant-loop-row : goal.invariant-loop-row
invariant-loop-row l = All (Satisfies l.point) (take l.row-index l.rows)
