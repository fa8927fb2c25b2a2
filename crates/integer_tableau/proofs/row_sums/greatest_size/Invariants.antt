use Rattle.std.proofs.Common.{ℕ, ◌<◌, ◌≤◌, get_or, nat_abs}
use Rattle.integer_tableau.specs.Numbers.{number_at}
use Rattle.integer_tableau.proofs.row_sums.greatest_size.Given as goal

abbrev pub invariant-loop-column : goal.invariant-loop-column
invariant-loop-column l = (p : ℕ) → p < l.column-index → nat_abs (number_at l.values (get_or l.basic_columns p 0)) ≤ l.size
