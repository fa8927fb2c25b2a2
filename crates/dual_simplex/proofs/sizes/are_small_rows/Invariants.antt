use Rattle.std.proofs.Common.{All, take}
use Rattle.dual_simplex.specs.Sizes.{IsIntegerRow}
use Rattle.dual_simplex.proofs.sizes.are_small_rows.Given as goal

abbrev pub invariant-loop-index : goal.invariant-loop-index
invariant-loop-index l = All IsIntegerRow (take l.index l.problem.rows)
