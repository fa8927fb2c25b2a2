use Rattle.std.proofs.Common.{◌∙◌, ◌+◌, ◌++◌, [], ◌∷◌, ap, drop}
use Rattle.cert_merge.specs.Merged.{row_lines}
use Rattle.cert_merge.proofs.Parts.{next_row}
use Rattle.cert_merge.proofs.part.push_rows.Goals as goal

pub loop-i-preserved : goal.loop-i-preserved
loop-i-preserved c =
    ap (λ ls. ls ++ row_lines (c.loop-i.i + 1) (drop (c.loop-i.i + 1) c.args.problem.now.rows)) (c.in_ok-push.ensures.items ∙ ap (λ r. c.loop-i.lines.items ++ (r ∷ [])) c.in_ok-labelled_row.ensures)
    ∙ next_row c.args.problem.now.rows c.loop-i.i c.row.result.now c.loop-i.lines.items c.row.ensures ∙ c.loop-i.invariant
