use Rattle.std.proofs.Common.{◌≡◌, ◌<◌, ◌≤◌, ℕ, drop, length}
use Rattle.std.specs.Prelude.{pos, slice_index_or}
use Rattle.fraction.specs.Rational.{whole, ◌+ℚ◌, neg_ℚ}
use Rattle.problem.specs.Linear.{coefficient}
use Rattle.problem.specs.Rising.{RiseFrom}
use Rattle.derivation_book.proofs.price.left_over.Given as goal

abbrev pub invariant-loop-column : goal.invariant-loop-column
invariant-loop-column l = record {
  rising : RiseFrom l.column (drop l.next l.target);
  same : (i : ℕ) → l.column ≤ i → coefficient (drop l.next l.target) i ≡ coefficient l.target i;
  long : length l.items.items ≡ l.column;
  left : (j : ℕ) → j < l.column → slice_index_or l.items.items j (whole (pos 0)) ≡ coefficient l.target j +ℚ neg_ℚ (slice_index_or l.coefficients j (whole (pos 0)));
}
