use Rattle.std.proofs.Common.{◌≡◌}
use Rattle.drill_instance.specs.Draws.{draw_each}
use Rattle.drill_instance.specs.Knapsacks.{draw_row}
use Rattle.drill_instance.proofs.instance.draw_rows.Given as goal

abbrev pub invariant-loop-row : goal.invariant-loop-row
invariant-loop-row l =
    (l.rows.items ≡ (draw_each draw_row l._row l.initial.generator).value) × (l.generator ≡ (draw_each draw_row l._row l.initial.generator).state)
