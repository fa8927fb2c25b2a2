use Rattle.std.proofs.Common.{ℕ, nat_abs}
use Rattle.integer_tableau.proofs.CombinationBounds.{IsBounded}
use Rattle.integer_tableau.proofs.combined_sizes.combination_bound.Given as goal

abbrev pub invariant-loop-entry : goal.invariant-loop-entry
invariant-loop-entry l = (k : ℕ) → IsBounded (nat_abs l.denominator) l.positions l.rows l.entries l.entry-index l.parts.basic l.parts.nonbasic k
