use Rattle.std.proofs.Common.{◌≡◌, ◌<◌, ◌≤◌, ◌+◌, ◌*◌, ℕ, [], get_or, length, pos}
use Rattle.integer_tableau.specs.Numbers.{number_at}
use Rattle.integer_tableau.proofs.coefficient_columns.put_rows.Given as goal

abbrev pub invariant-loop-row : goal.invariant-loop-row
invariant-loop-row l = record {
  done : (i j : ℕ) → i < l.row → j < l.width → number_at l.numbers (j * length l.program_rows + i) ≡ number_at (get_or l.program_rows i []) j;
  left : (i j : ℕ) → l.row ≤ i → i < length l.program_rows → number_at l.numbers (j * length l.program_rows + i) ≡ pos 0;
}
