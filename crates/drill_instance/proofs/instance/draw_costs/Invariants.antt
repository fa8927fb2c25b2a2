use Rattle.std.proofs.Common.{◌≡◌}
use Rattle.drill_instance.specs.Draws.{draw_each}
use Rattle.drill_instance.specs.Knapsacks.{draw_cost}
use Rattle.drill_instance.proofs.instance.draw_costs.Given as goal

abbrev pub invariant-loop-column : goal.invariant-loop-column
invariant-loop-column l =
    (l.costs.items ≡ (draw_each draw_cost l._column l.initial.generator).value) × (l.generator ≡ (draw_each draw_cost l._column l.initial.generator).state)
