use Rattle.std.proofs.Common.{◌∙◌, ap, ap₂}
use Rattle.drill_instance.specs.Draws.{draw_each}
use Rattle.drill_instance.specs.Knapsacks.{draw_cost, draw_row, knapsack_of}
use Rattle.drill_instance.proofs.instance.Instance.drawn.Goals as goal

pub returns : goal.returns
unfolding knapsack_of
returns c =
    let costs = c.in_ok-costs.ensures.value ∙ ap (λ s. (draw_each draw_cost 30 s).value) c.seeded-generator.ensures in
    let state = c.in_ok-costs.ensures.state ∙ ap (λ s. (draw_each draw_cost 30 s).state) c.seeded-generator.ensures in
    let weights = c.in_ok-rows.ensures.value ∙ ap (λ s. (draw_each draw_row 10 s).value) state in
    ap₂ (λ costs weights. record { costs = costs; weights = weights }) costs weights
