use Rattle.std.proofs.Common.{◌≡◌, ◌++◌, drop}
use Rattle.cert_merge.specs.Merged.{row_lines}
use Rattle.cert_merge.proofs.part.push_rows.Given as goal

abbrev pub invariant-loop-i : goal.invariant-loop-i
invariant-loop-i l = l.lines.items ++ row_lines l.i (drop l.i l.problem.rows) ≡ l.initial.lines.items ++ row_lines 0 l.problem.rows
