use Rattle.std.proofs.Common.{◌≡◌, Some}
use Rattle.tableau.specs.Pivot.{pivoted}
use Rattle.scaled_program.proofs.FromCode.{both, pivot_from_code}
use Rattle.scaled_program.proofs.scaled_tableau.ScaledTableau.pivot.Goals as goal

pub returns-clause-value : goal.returns-clause-value
returns-clause-value c =
    let n = c.self.inside in
    both _ _ (λ t. pivoted c.args.leaving c.args.entering c.args.self ≡ Some t) c.read.result
    (λ w f small. pivot_from_code n.scales.greatest n.scales.rows.items.value.items n.scales.costs c.self.invariant.0 n.tableau c.args.self c.self.invariant.1 c.self.view_is
    c.in_ok-tableau.tableau w c.args.leaving c.args.entering small c.requires.asked c.in_ok-tableau.ensures.value f)
    c.read.ensures.value c.read.ensures.small
