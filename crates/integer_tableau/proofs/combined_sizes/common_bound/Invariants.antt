use Rattle.std.proofs.Common.{ℕ, ◌<◌, [], get_or}
use Rattle.integer_tableau.specs.Numbers.{IsWithin}
use Rattle.integer_tableau.proofs.combined_sizes.common_bound.Given as goal

abbrev pub invariant-loop-column : goal.invariant-loop-column
invariant-loop-column l = (p : ℕ) → p < l.column-index → IsWithin l.bound (get_or l.rows (get_or l.basic_columns p 0) [])
