use Rattle.std.proofs.Common.{◌≡◌, ◌<◌, ℕ, ℤ, List}
use Rattle.integer_tableau.specs.Numbers.{number_at}
use Rattle.integer_tableau.specs.RowSums.{AreColumnSums, AreColumnsOf}
use Rattle.integer_tableau.proofs.start_sums.change_values.Given as goal

abbrev pub invariant-loop-column : goal.invariant-loop-column
invariant-loop-column l = record {
  values : (j : ℕ) → j < l.column → number_at l.values j ≡ number_at l.nonbasic_values j;
  sums : (ps : List (List ℤ)) → AreColumnsOf ps l.columns → AreColumnSums ps l.initial.values l.initial.sums → AreColumnSums ps l.values l.sums;
}
