use Rattle.std.proofs.Common.{ℕ, ◌<◌, ◌≤◌, nat_abs}
use Rattle.integer_tableau.proofs.EntrySums.{entry_at}
use Rattle.integer_tableau.proofs.program_row.greatest_size.Given as goal

abbrev pub invariant-loop-entry : goal.invariant-loop-entry
invariant-loop-entry l = (i : ℕ) → i < l.entry-index → nat_abs (entry_at l.entries i).number ≤ l.size
