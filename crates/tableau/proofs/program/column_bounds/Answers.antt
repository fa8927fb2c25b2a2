use Rattle.std.proofs.Common.{sym, ◌∙◌, ◌++◌, ◌∷◌, []}
use Rattle.tableau.specs.LinearProgram.{span_bounds}
use Rattle.tableau.specs.Lemmas.Programs.{next_mapped}
use Rattle.tableau.proofs.program.column_bounds.Goals as goal

pub loop-column-preserved : goal.loop-column-preserved
loop-column-preserved c =
    c.in_ok-push.ensures.items ∙ (λ i. c.loop-column.invariant i ++ (c.span_bounds-lower.ensures i ∷ []))
    ∙ sym (next_mapped span_bounds c.args.area.now c.loop-column.column c.span.result c.span.ensures)
