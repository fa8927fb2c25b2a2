use Rattle.std.proofs.Common.{◌^◌, drop}
use Rattle.integer_tableau.specs.Entries.{entry_size}
use Rattle.integer_tableau.specs.Numbers.{number_at}
use Rattle.integer_tableau.proofs.CombinedLoops.{IsSoFar}
use Rattle.integer_tableau.proofs.EntrySums.{entry_sum}
use Rattle.integer_tableau.proofs.combination.sum_of_products.Given as goal

abbrev pub invariant-loop-entry : goal.invariant-loop-entry
invariant-loop-entry l = let f = number_at l.numbers in let i = l.entry-index in
    IsSoFar l.total (entry_sum f (drop i l.entries)) (entry_sum f l.entries) (entry_size (drop i l.entries)) (entry_size l.entries) (2 ^ 63)
