use Rattle.std.proofs.Common.{ap, ◌∙◌}
use Rattle.fraction.specs.Checked.{dot_checked}
use Rattle.tableau.specs.Elimination.{zero_ℚ}
use Rattle.tableau.specs.LinearProgram.{coefficients_from}
use Rattle.tableau.specs.SparseSteps.{sum_over_entries}
use Rattle.fraction.specs.Lemmas.Checked.{zero_has_fraction}
use Rattle.tableau.proofs.Summing.{sum_is}
use Rattle.tableau.proofs.sparse_row.SparseRow.value_over.Goals as goal

pub returns : goal.returns
returns c =
    c.sum_over.ensures ∙ ap (λ es. sum_over_entries zero_ℚ es c.args.values.now) (c.as_slice.ensures ∙ c.self.invariant.entries)
    ∙ sum_is 0 zero_ℚ (coefficients_from 0 c.self.inside.width c.self.inside.entries) c.args.values.now zero_has_fraction
    ∙ ap (λ row. dot_checked row c.args.values.now) c.self.view_is
