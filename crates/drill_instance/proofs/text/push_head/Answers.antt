use Rattle.std.proofs.Common.{◌≡◌, ◌++◌, ◌∙◌, OnOk, ap, append_assoc, codes, subst}
use Rattle.std.specs.Fmt.{decimal}
use Rattle.drill_instance.specs.Texts.{row_lines}
use Rattle.drill_instance.proofs.Pieces.{two_before}
use Rattle.drill_instance.proofs.text.push_head.Goals as goal

pub returns : goal.returns
returns c =
    let old = c.args.text.now.items in
    let named =
    c.in_ok-push_numbered.ensures ∙ append_assoc old (codes "NAME drill") (decimal c.from.result)
    ∙ ap (λ n. old ++ (codes "NAME drill" ++ decimal n)) c.from.ensures in
    let whole = two_before old (codes "NAME drill" ++ decimal c.args.seed) (codes "\nROWS\n N obj\n") (row_lines c.args.rows) _ _ named c.in_ok-extend_from_slice.ensures.items in
    subst (λ t. OnOk c.push_row_lines.result (c.push_row_lines.new.text.items ≡ t)) whole c.push_row_lines.ensures
