use Rattle.std.proofs.Common.{ap, sym, ◌∙◌}
use Rattle.tableau.specs.Elimination.{add_multiple, entry}
use Rattle.fraction.specs.Lemmas.Checked.{zero_from_test}
use Rattle.tableau.proofs.Zeros.{add_multiple-zero}
use Rattle.tableau.proofs.sparse_row.add_product.Goals as goal

pub returns-then-is_zero : goal.returns-then-is_zero
returns-then-is_zero c =
    let value = ap (entry c.args.values.now) (sym c.index.ensures) ∙ sym c.value_at-value.ensures ∙ zero_from_test c.value_at-value.result (sym c.is_zero.ensures ∙ c.if-is_zero.true) in
    sym (ap (add_multiple c.args.term.now.1 c.args.sum) value ∙ add_multiple-zero c.args.term.now.1 c.args.sum c.limits_hold.ensures)
