use Rattle.std.proofs.Common.{◌≡◌, ◌++◌}
use Rattle.drill_instance.specs.Texts.{binary_lines}
use Rattle.drill_instance.proofs.text.push_binaries.Given as goal

abbrev pub invariant-loop-column : goal.invariant-loop-column
invariant-loop-column l = l.text.items ≡ l.initial.text.items ++ binary_lines l.column
