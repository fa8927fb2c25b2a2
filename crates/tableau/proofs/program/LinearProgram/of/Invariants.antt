use Rattle.std.proofs.Common.{◌≡◌, take}
use Rattle.tableau.specs.LinearProgram.{program_of, numbers_from}
use Rattle.tableau.proofs.program.LinearProgram.of.Given as goal
use Rattle.problem.specs.Directions.{aim}

abbrev pub invariant-loop-i : goal.invariant-loop-i
invariant-loop-i l = l.program ≡ program_of (aim l.problem) (take l.i l.problem.rows) (numbers_from 0 l.i) l.area
