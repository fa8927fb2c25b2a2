use Rattle.std.proofs.Common.{◌∙◌, ◌+◌, ◌++◌, [], ◌∷◌, ap, drop}
use Rattle.cert_merge.specs.Merged.{bound_lines}
use Rattle.cert_merge.proofs.Parts.{next_bounds}
use Rattle.cert_merge.proofs.part.push_bounds.Goals as goal

pub loop-j-preserved : goal.loop-j-preserved
loop-j-preserved c =
    ap (λ ls. ls ++ bound_lines (c.loop-j.j + 1) (drop (c.loop-j.j + 1) c.args.root.now))
    (c.in_ok-push-2.ensures.items ∙ (λ i. (c.in_ok-push.ensures.items ∙ ap (λ r. c.loop-j.lines.items ++ (r ∷ [])) c.in_ok-lower_line.ensures) i ++ (c.in_ok-upper_line.ensures i ∷ [])))
    ∙ next_bounds c.args.root.now c.loop-j.j c.span-span.result c.loop-j.lines.items c.span-span.ensures ∙ c.loop-j.invariant
