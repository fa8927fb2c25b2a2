use Rattle.std.proofs.Common.{◌≡◌, ℕ, ◌<◌, ◌≤◌, neg_ℤ}
use Rattle.integer_tableau.specs.Numbers.{number_at}
use Rattle.integer_tableau.proofs.integer_row.negate.Given as goal

abbrev pub invariant-loop-number : goal.invariant-loop-number
invariant-loop-number l = record {
  done : (k : ℕ) → k < l.number-index → number_at l.row k ≡ neg_ℤ (number_at l.initial.row k);
  left : (k : ℕ) → l.number-index ≤ k → number_at l.row k ≡ number_at l.initial.row k;
}
