use Rattle.integer_tableau.proofs.ColumnSums.{column_sums}
use Rattle.integer_tableau.proofs.ValueSteps.{values_after}
use Rattle.integer_tableau.proofs.dictionary_laws.values_step_by_columns.Goals as goal

pub returns : goal.returns
returns f = record {
  fractions = values_after;
  columns = λ ps weight reach p t m r c k b values compact s stored behind at_r at_c total same w. column_sums ps weight reach p t m r c k b values compact s stored behind at_r at_c total same w;
}
