use Rattle.std.proofs.Common.{◌++◌, ◌∙◌, codes, ap, ap₂}
use Rattle.drill_instance.specs.Texts.{column_lines}
use Rattle.drill_instance.proofs.Pieces.{two_before}
use Rattle.drill_instance.proofs.text.push_columns.Goals as goal

pub returns : goal.returns
returns c =
    let lines = ap₂ (λ weights costs. column_lines weights 0 costs) c.rows.ensures c.costs.ensures in
    c.in_ok-extend_from_slice-2.ensures.items
    ∙ two_before c.args.text.now.items (codes "COLUMNS\n m 'MARKER' 'INTORG'\n") (column_lines c.args.instance.now.weights 0 c.args.instance.now.costs) (codes " m 'MARKER' 'INTEND'\n") _ _
    c.in_ok-extend_from_slice.ensures.items
    (c.in_ok-push_column_lines.ensures ∙ ap (λ t. c.extend_from_slice.new.self.items ++ t) lines)
