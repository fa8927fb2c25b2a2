-- Numbers of seed 1 that were worked without this crate.
use Rattle.std.specs.Prelude.{◌≡◌, ◌/◌, ◌^◌, [], ◌∷◌, refl}
use Rattle.drill_instance.specs.Draws.{next_state, draw, draw_each}
use Rattle.drill_instance.specs.Knapsacks.{draw_cost}

-- the first number
first_number : next_state 1 / 2 ^ 33 ≡ 908_834_774
first_number = refl

-- its remainder by 20
first_draw : (draw 20 1).value ≡ 14
first_draw = refl

-- the first three costs
first_costs : (draw_each draw_cost 3 1).value ≡ 15 ∷ 14 ∷ 17 ∷ []
unfolding draw_each
first_costs = refl
