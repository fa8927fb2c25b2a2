use Rattle.std.proofs.Common.{sym, ap, ◌∙◌, arith}
use Rattle.std.specs.Prelude.{slice_get}
use Rattle.fraction.specs.Lemmas.Bounds.{was_mapped}
use Rattle.problem.specs.declared.row.Row.{Row}
use Rattle.derivation_book.specs.declared.cut.Cut.{Cut}
use Rattle.dual_simplex.specs.Lemmas.EachOne.{failed_at, passed_at}
use Rattle.event_core.specs.Relaxed.{satisfies_row}
use Rattle.event_core.proofs.relaxed.satisfies_cuts.Goals as goal

pub returns-then-not-satisfies_row : goal.returns-then-not-satisfies_row
returns-then-not-satisfies_row c =
    let w = was_mapped (λ (d : Cut). d.row) (slice_get c.args.book.now.cuts c.loop-index.index) c.cut-row.result.now c.cut-row.ensures.row in
    failed_at (λ (d : Cut). satisfies_row c.args.sums.now d.row) c.args.book.now.cuts c.args.cuts c.loop-index.index w.0
    (omega arith) c.requires w.1 (ap (λ (r : Row). satisfies_row c.args.sums.now r) w.2 ∙ sym c.satisfies_row.ensures ∙ c.if-not-satisfies_row.true)

pub loop-index-preserved : goal.loop-index-preserved
loop-index-preserved c =
    let w = was_mapped (λ (d : Cut). d.row) (slice_get c.args.book.now.cuts c.loop-index.index) c.cut-row.result.now c.cut-row.ensures.row in
    passed_at (λ (d : Cut). satisfies_row c.args.sums.now d.row) c.args.book.now.cuts c.loop-index.index w.0
    (omega arith) w.1 c.loop-index.invariant (ap (λ (r : Row). satisfies_row c.args.sums.now r) w.2 ∙ sym c.satisfies_row.ensures ∙ c.if-not-satisfies_row.false)
