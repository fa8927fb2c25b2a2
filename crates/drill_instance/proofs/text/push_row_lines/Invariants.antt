use Rattle.std.proofs.Common.{◌≡◌, ◌++◌}
use Rattle.drill_instance.specs.Texts.{row_lines}
use Rattle.drill_instance.proofs.text.push_row_lines.Given as goal

abbrev pub invariant-loop-row : goal.invariant-loop-row
invariant-loop-row l = l.text.items ≡ l.initial.text.items ++ row_lines l.row
