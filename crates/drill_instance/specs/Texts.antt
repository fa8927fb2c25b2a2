-- The text of a knapsack, in free MPS. Columns and rows are numbered from 0.
use Rattle.std.specs.Prelude.{ℕ, zero, suc, ◌+◌, List, [], ◌∷◌, ◌++◌, get_or, codes, if◌then◌else◌, nat_eq, length}
use Rattle.std.specs.Fmt.{decimal}
use Rattle.drill_instance.specs.Knapsacks.{Knapsack, knapsack_of, capacity}

-- the row of a number, which is at most its right side
abbrev pub row_line : ℕ → List ℕ
row_line i = codes " L r" ++ decimal i ++ codes "\n"

-- those of the first so many rows
abbrev pub row_lines : ℕ → List ℕ
row_lines zero = []
row_lines (suc i) = row_lines i ++ row_line i

-- the cost of a column, which counts with a minus, since the model is minimised
abbrev pub cost_line : ℕ → ℕ → List ℕ
cost_line j cost = codes " x" ++ decimal j ++ codes " obj -" ++ decimal cost ++ codes "\n"

-- the weight of column j in row i, and no line where there is none
abbrev pub weight_line : ℕ → ℕ → ℕ → List ℕ
weight_line j i weight =
    if nat_eq weight 0 then [] else codes " x" ++ decimal j ++ codes " r" ++ decimal i ++ codes " " ++ decimal weight ++ codes "\n"

-- the weights of column j in these rows, numbered from i on
abbrev pub weight_lines : ℕ → ℕ → List (List ℕ) → List ℕ
weight_lines j i [] = []
weight_lines j i (row ∷ rows) = weight_line j i (get_or row j 0) ++ weight_lines j (i + 1) rows

-- the columns of these costs, numbered from j on, each with its weights
abbrev pub column_lines : List (List ℕ) → ℕ → List ℕ → List ℕ
column_lines weights j [] = []
column_lines weights j (cost ∷ costs) = cost_line j cost ++ weight_lines j 0 weights ++ column_lines weights (j + 1) costs

-- the capacity of row i, which is its right side
abbrev pub capacity_line : ℕ → List ℕ → List ℕ
capacity_line i row = codes " rhs r" ++ decimal i ++ codes " " ++ decimal (capacity row) ++ codes "\n"

-- those of these rows, numbered from i on
abbrev pub capacity_lines : ℕ → List (List ℕ) → List ℕ
capacity_lines i [] = []
capacity_lines i (row ∷ rows) = capacity_line i row ++ capacity_lines (i + 1) rows

-- a column is binary
abbrev pub binary_line : ℕ → List ℕ
binary_line j = codes " BV b x" ++ decimal j ++ codes "\n"

-- those of the first so many columns
abbrev pub binary_lines : ℕ → List ℕ
binary_lines zero = []
binary_lines (suc j) = binary_lines j ++ binary_line j

-- the name and the rows, of which the objective is the first
abbrev pub head_text : ℕ → ℕ → List ℕ
head_text seed rows = codes "NAME drill" ++ decimal seed ++ codes "\nROWS\n N obj\n" ++ row_lines rows

-- the columns, all of which are integer
abbrev pub columns_text : Knapsack → List ℕ
columns_text k = codes "COLUMNS\n m 'MARKER' 'INTORG'\n" ++ column_lines k.weights 0 k.costs ++ codes " m 'MARKER' 'INTEND'\n"

-- the right sides, and the bounds
abbrev pub ending_text : Knapsack → List ℕ
ending_text k = codes "RHS\n" ++ capacity_lines 0 k.weights ++ codes "BOUNDS\n" ++ binary_lines (length k.costs) ++ codes "ENDATA\n"

-- the text of a knapsack, named by its seed
abbrev pub knapsack_text : ℕ → Knapsack → List ℕ
knapsack_text seed k = head_text seed (length k.weights) ++ columns_text k ++ ending_text k

-- the text of a seed's instance
abbrev pub generated : ℕ → List ℕ
generated seed = knapsack_text seed (knapsack_of seed)
