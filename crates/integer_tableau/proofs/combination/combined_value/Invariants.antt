use Rattle.std.proofs.Common.{◌^◌, drop}
use Rattle.integer_tableau.specs.Entries.{entry_size}
use Rattle.integer_tableau.proofs.CombinedLoops.{IsSoFar}
use Rattle.integer_tableau.proofs.EntrySums.{entry_sum, value_over}
use Rattle.integer_tableau.proofs.combination.combined_value.Given as goal

abbrev pub invariant-loop-entry : goal.invariant-loop-entry
invariant-loop-entry l = let f = value_over l.denominator l.positions l.nonbasic_values l.values in let i = l.entry-index in
    IsSoFar l.total (entry_sum f (drop i l.entries)) (entry_sum f l.entries) (entry_size (drop i l.entries)) (entry_size l.entries) (2 ^ 63)
