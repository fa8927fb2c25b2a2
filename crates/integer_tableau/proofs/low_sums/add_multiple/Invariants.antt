use Rattle.std.proofs.Common.{◌≡◌, ℕ, ◌<◌, ◌≤◌, ◌+ℤ◌, ◌*ℤ◌}
use Rattle.std.specs.Int.{w64, int_wrap}
use Rattle.integer_tableau.specs.Numbers.{number_at}
use Rattle.integer_tableau.proofs.low_sums.add_multiple.Given as goal

abbrev pub invariant-loop-k : goal.invariant-loop-k
invariant-loop-k l = record {
  done : (i : ℕ) → i < l.k → int_wrap w64 (number_at l.sums i) ≡ int_wrap w64 (number_at l.initial.sums i +ℤ l.factor *ℤ number_at l.row i);
  left : (i : ℕ) → l.k ≤ i → number_at l.sums i ≡ number_at l.initial.sums i;
}
