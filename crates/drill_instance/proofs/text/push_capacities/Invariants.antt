use Rattle.std.proofs.Common.{◌≡◌, ◌++◌, drop}
use Rattle.drill_instance.specs.Texts.{capacity_lines}
use Rattle.drill_instance.proofs.text.push_capacities.Given as goal

abbrev pub invariant-loop-number : goal.invariant-loop-number
invariant-loop-number l =
    l.text.items ++ capacity_lines l.number (drop l.number l.rows) ≡ l.initial.text.items ++ capacity_lines 0 l.rows
