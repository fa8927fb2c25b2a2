use Rattle.std.proofs.Common.{sym, ap, ◌∙◌, arith, length}
use Rattle.std.specs.List.{list_all}
use Rattle.std.proofs.lemmas.List.{take_all}
use Rattle.problem.specs.declared.row.Row.{Row}
use Rattle.dual_simplex.specs.Lemmas.EachOne.{failed_at, passed_at}
use Rattle.event_core.specs.Relaxed.{satisfies_row}
use Rattle.event_core.proofs.relaxed.satisfies_rows.Goals as goal

pub returns-then-not-satisfies_row : goal.returns-then-not-satisfies_row
returns-then-not-satisfies_row c =
    let rows = c.args.problem.now.rows in
    failed_at (λ (r : Row). satisfies_row c.args.sums.now r) rows (length rows) c.loop-index.index c.row-row.result.now
    (omega arith) (omega arith) c.row-row.ensures (sym c.satisfies_row.ensures ∙ c.if-not-satisfies_row.true)
    ∙ ap (list_all (λ (r : Row). satisfies_row c.args.sums.now r)) (take_all (length rows) rows (omega arith))

pub loop-index-preserved : goal.loop-index-preserved
loop-index-preserved c =
    passed_at (λ (r : Row). satisfies_row c.args.sums.now r) c.args.problem.now.rows c.loop-index.index c.row-row.result.now
    (omega arith) c.row-row.ensures c.loop-index.invariant (sym c.satisfies_row.ensures ∙ c.if-not-satisfies_row.false)
