use Rattle.std.proofs.Common.{◌≡◌, ◌++◌}
use Rattle.vipr_print.specs.Spelling.{column_numbers}
use Rattle.vipr_print.proofs.pieces.push_columns.Given as goal

abbrev pub invariant-loop-column : goal.invariant-loop-column
invariant-loop-column l = l.out.items ≡ l.initial.out.items ++ column_numbers l.column
