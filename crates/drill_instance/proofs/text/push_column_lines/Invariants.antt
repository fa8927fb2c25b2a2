use Rattle.std.proofs.Common.{◌≡◌, ◌++◌, drop}
use Rattle.drill_instance.specs.Texts.{column_lines}
use Rattle.drill_instance.proofs.text.push_column_lines.Given as goal

abbrev pub invariant-loop-column : goal.invariant-loop-column
invariant-loop-column l =
    l.text.items ++ column_lines l.rows l.column (drop l.column l.costs) ≡ l.initial.text.items ++ column_lines l.rows 0 l.costs
