use Rattle.std.proofs.Common.{ℕ, ◌<◌, ◌≤◌, [], get_or}
use Rattle.integer_tableau.specs.Numbers.{total_size}
use Rattle.integer_tableau.proofs.integer_program.greatest_weight.Given as goal

abbrev pub invariant-loop-row : goal.invariant-loop-row
invariant-loop-row l = (v : ℕ) → v < l.row-index → total_size (get_or l.rows v []) ≤ l.weight
