use Rattle.std.proofs.Common.{◌≡◌, ◌++◌, drop}
use Rattle.drill_instance.specs.Texts.{weight_lines}
use Rattle.drill_instance.proofs.text.push_weights.Given as goal

abbrev pub invariant-loop-number : goal.invariant-loop-number
invariant-loop-number l =
    l.text.items ++ weight_lines l.column l.number (drop l.number l.rows) ≡ l.initial.text.items ++ weight_lines l.column 0 l.rows
