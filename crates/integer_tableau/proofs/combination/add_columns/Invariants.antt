use Rattle.std.proofs.Common.{ℕ, nat_abs, drop}
use Rattle.integer_tableau.specs.Entries.{entry_size}
use Rattle.integer_tableau.specs.Numbers.{number_at}
use Rattle.integer_tableau.specs.Range.{size_limit}
use Rattle.integer_tableau.proofs.CombinedLoops.{IsSoFar}
use Rattle.integer_tableau.proofs.EntrySums.{entry_sum, said_of}
use Rattle.integer_tableau.proofs.combination.add_columns.Given as goal

abbrev pub invariant-loop-entry : goal.invariant-loop-entry
invariant-loop-entry l = (k : ℕ) → let f = said_of (nat_abs l.denominator) l.positions l.rows k in let i = l.entry-index in
    IsSoFar (number_at l.sums k) (entry_sum f (drop i l.entries)) (entry_sum f l.entries) (entry_size (drop i l.entries)) (entry_size l.entries) size_limit
