-- The limits that a problem keeps to, each named once. The sums that these sizes leave room for stand in `Modest` and its lemmas.
use Rattle.std.specs.Prelude.{ℕ, ◌^◌}

-- the most columns of a problem
abbrev pub most_columns : ℕ
most_columns = 8000

-- the most rows of a problem
abbrev pub most_rows : ℕ
most_rows = 8000

-- the most cuts that a search adds to a problem's rows
abbrev pub most_cuts : ℕ
most_cuts = 256

-- the largest size of a column's bound, of a coefficient, and of a number of a model's text; a right side may have twice that size
abbrev pub largest_bound : ℕ
largest_bound = 10 ^ 9

-- coefficients, right sides and the numbers of a model's text are multiples of 1 / finest
abbrev pub finest : ℕ
finest = 10 ^ 15

-- the largest size of a cut's coefficient
abbrev pub largest_cut_coefficient : ℕ
largest_cut_coefficient = 2 ^ 40
