use Rattle.std.proofs.Common.{◌≡◌, drop}
use Rattle.tableau.specs.Elimination.{zero_ℚ}
use Rattle.tableau.specs.SparseSteps.{sum_over_entries}
use Rattle.tableau.proofs.sparse_row.sum_over.Given as goal

abbrev pub invariant-loop-entry : goal.invariant-loop-entry
invariant-loop-entry l = sum_over_entries l.sum (drop l.entry-index l.entries) l.values ≡ sum_over_entries zero_ℚ l.entries l.values
