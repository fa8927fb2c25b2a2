use Rattle.std.proofs.Common.{ℕ, ◌<◌, ◌≤◌, get_or, None}
use Rattle.integer_tableau.specs.Combined.{bound_size}
use Rattle.integer_tableau.proofs.start.reach_of.Given as goal

abbrev pub invariant-loop-column : goal.invariant-loop-column
invariant-loop-column l = (j : ℕ) → j < l.column → bound_size (get_or l.bounds j (record { lower = None; upper = None })) ≤ l.reach
