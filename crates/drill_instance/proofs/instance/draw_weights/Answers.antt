use Rattle.std.proofs.Common.{◌≡◌, ◌∙◌, ap, arith}
use Rattle.drill_instance.specs.Draws.{draw_each}
use Rattle.drill_instance.specs.Knapsacks.{draw_weight}
use Rattle.drill_instance.proofs.instance.draw_weights.Goals as goal

pub returns-clause-value : goal.returns-clause-value
returns-clause-value c =
    let all : c.loop-column._column ≡ c.args.columns = omega arith in
    c.loop-column.invariant.0 ∙ ap (λ n. (draw_each draw_weight n c.args.generator.now).value) all

pub returns-clause-state : goal.returns-clause-state
returns-clause-state c =
    let all : c.loop-column._column ≡ c.args.columns = omega arith in
    c.loop-column.invariant.1 ∙ ap (λ n. (draw_each draw_weight n c.args.generator.now).state) all
