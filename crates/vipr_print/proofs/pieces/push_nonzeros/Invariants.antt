use Rattle.std.proofs.Common.{◌≡◌, ◌++◌, drop}
use Rattle.vipr_print.specs.Spelling.{spelled_nonzeros}
use Rattle.vipr_print.proofs.pieces.push_nonzeros.Given as goal

abbrev pub invariant-loop-column : goal.invariant-loop-column
invariant-loop-column l = l.out.items ++ spelled_nonzeros l.column (drop l.column l.point) ≡ l.initial.out.items ++ spelled_nonzeros 0 l.point
