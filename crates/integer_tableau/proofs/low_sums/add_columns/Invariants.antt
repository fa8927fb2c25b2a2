use Rattle.std.proofs.Common.{◌≡◌, ℕ, ◌<◌, length, nat_abs, ◌+ℤ◌, drop}
use Rattle.std.specs.Int.{w64, int_wrap}
use Rattle.integer_tableau.specs.Numbers.{number_at}
use Rattle.integer_tableau.proofs.EntrySums.{entry_sum, said_of}
use Rattle.integer_tableau.proofs.low_sums.add_columns.Given as goal

abbrev pub invariant-loop-entry : goal.invariant-loop-entry
invariant-loop-entry l = (k : ℕ) → k < length l.initial.sums → let f = said_of (nat_abs l.denominator) l.positions l.rows k in
    int_wrap w64 (number_at l.sums k +ℤ entry_sum f (drop l.entry-index l.entries)) ≡ int_wrap w64 (entry_sum f l.entries)
