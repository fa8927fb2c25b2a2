use Rattle.std.proofs.Common.{◌≡◌, take}
use Rattle.dual_simplex.specs.Answers.{linear_program}
use Rattle.dual_simplex.proofs.program.linear_program.Given as goal

abbrev pub invariant-loop-index : goal.invariant-loop-index
invariant-loop-index l = l.program ≡ linear_program l.problem (take l.index l.book.cuts) l.area
