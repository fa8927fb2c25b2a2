-- The instance of a seed: a multidimensional knapsack of 30 columns and 10 rows.
use Rattle.std.specs.Prelude.{ℕ, ◌/◌, List, if◌then◌else◌, nat_eq, sum}
use Rattle.drill_instance.specs.Draws.{Drawn, draw, draw_positive, draw_each}

-- the cost of each column, and for each row the weight of each column, 0 where it has none
pub record Knapsack : Type 0 where
  pub costs : List ℕ
  pub weights : List (List ℕ)

-- a cost is from 1 to 20
abbrev pub draw_cost : ℕ → Drawn ℕ
draw_cost s = draw_positive 20 s

-- Where the first of four numbers is drawn, the weight is from 1 to 9; else there is none.
abbrev pub draw_weight : ℕ → Drawn ℕ
draw_weight s =
    let chance = draw 4 s in
    if nat_eq chance.value 0 then draw_positive 9 chance.state else record { value = 0; state = chance.state }

-- the weights of a row
abbrev pub draw_row : ℕ → Drawn (List ℕ)
draw_row s = draw_each draw_weight 30 s

-- all costs are drawn first, and then row by row the weights
unfoldable pub knapsack_of : ℕ → Knapsack
knapsack_of seed =
    let costs = draw_each draw_cost 30 seed in
    record { costs = costs.value; weights = (draw_each draw_row 10 costs.state).value }

-- the capacity of a row is half the sum of its weights, rounded down
abbrev pub capacity : List ℕ → ℕ
capacity row = sum row / 2
