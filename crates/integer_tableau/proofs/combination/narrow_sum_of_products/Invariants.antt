use Rattle.integer_tableau.proofs.NarrowSums.{IsSummed}
use Rattle.integer_tableau.proofs.combination.narrow_sum_of_products.Given as goal

abbrev pub invariant-loop-entry : goal.invariant-loop-entry
invariant-loop-entry l = IsSummed l.entries l.numbers l.entry-index l.total
