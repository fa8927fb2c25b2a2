use Rattle.std.proofs.Common.{◌≡◌}
use Rattle.drill_instance.specs.Draws.{draw_each}
use Rattle.drill_instance.specs.Knapsacks.{draw_weight}
use Rattle.drill_instance.proofs.instance.draw_weights.Given as goal

abbrev pub invariant-loop-column : goal.invariant-loop-column
invariant-loop-column l =
    (l.weights.items ≡ (draw_each draw_weight l._column l.initial.generator).value) × (l.generator ≡ (draw_each draw_weight l._column l.initial.generator).state)
