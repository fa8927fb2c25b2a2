use Rattle.std.proofs.Common.{All, take}
use Rattle.problem.specs.Limited.{IsModestSpan}
use Rattle.dual_simplex.proofs.sizes.is_modest.Given as goal

abbrev pub invariant-loop-column : goal.invariant-loop-column
invariant-loop-column l = All IsModestSpan (take l.column l.area)
