use Rattle.std.proofs.Common.{ap, length, rules, ◌∙◌, w64}
use mir.Val.{SFits}
use Rattle.std.proofs.lemmas.Int.{to_z-of_z}
use Rattle.integer_tableau.specs.Combined.{expanded}
use Rattle.integer_tableau.specs.IntegerTableau.{of_parts, tableau_of}
use Rattle.integer_tableau.proofs.integer_tableau.IntegerTableau.into_running.Goals as goal

pub returns-clause-view : goal.returns-clause-view
returns-clause-view c =
    let n = c.self.inside in
    let f : SFits w64 n.denominator = search rules in
    ap (λ z. tableau_of (length n.rows.items) n.fixed.numbers.items
    (expanded n.fixed.rows.items.value.items (of_parts n.fixed.bounds.items n.positions.items n.at_upper.items n.nonbasic_values.items n.rows.items n.reduced_costs n.values.items z n.pivots)))
    (to_z-of_z w64 n.denominator f)
    ∙ c.self.view_is
