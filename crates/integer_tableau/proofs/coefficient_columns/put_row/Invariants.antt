use Rattle.std.proofs.Common.{◌≡◌, ◌≢◌, ◌<◌, ◌+◌, ◌*◌, ℕ, length, take}
use Rattle.integer_tableau.specs.Entries.{spread}
use Rattle.integer_tableau.specs.Numbers.{number_at}
use Rattle.integer_tableau.proofs.coefficient_columns.put_row.Given as goal

abbrev pub invariant-loop-entry : goal.invariant-loop-entry
invariant-loop-entry l = record {
  put : (j : ℕ) → j < length l.coefficients → number_at l.numbers (j * l.rows + l.row) ≡ number_at (spread 0 (length l.coefficients) (take l.entry-index l.entry-items)) j;
  others : (j i : ℕ) → i < l.rows → i ≢ l.row → number_at l.numbers (j * l.rows + i) ≡ number_at l.initial.numbers (j * l.rows + i);
}
