use Rattle.std.specs.Prelude.{is_some}
use Rattle.std.proofs.Common.{sym, ap, ◌∙◌, arith}
use Rattle.std.specs.Prelude.{slice_get}
use Rattle.fraction.specs.Lemmas.Bounds.{was_mapped}
use Rattle.problem.specs.declared.row.Row.{Row}
use Rattle.derivation_book.specs.declared.cut.Cut.{Cut}
use Rattle.dual_simplex.specs.PointSums.{checked_sum}
use Rattle.dual_simplex.specs.Lemmas.EachOne.{failed_at, passed_at}
use Rattle.dual_simplex.proofs.sums.cut_sums_fit.Goals as goal

pub returns-then-not-sum_fits : goal.returns-then-not-sum_fits
returns-then-not-sum_fits c =
    let w = was_mapped (λ (d : Cut). d.row) (slice_get c.args.book.now.cuts c.loop-index.index) c.cut-row.result.now c.cut-row.ensures.row in
    failed_at (λ (d : Cut). is_some (checked_sum d.row.terms c.args.sums.now)) c.args.book.now.cuts c.args.cuts c.loop-index.index w.0
    (omega arith) c.requires w.1
    (ap (λ (r : Row). is_some (checked_sum r.terms c.args.sums.now)) w.2 ∙ ap (λ ts. is_some (checked_sum ts c.args.sums.now)) (sym c.as_slice.ensures) ∙ sym c.sum_fits.ensures ∙ c.if-not-sum_fits.true)

pub loop-index-preserved : goal.loop-index-preserved
loop-index-preserved c =
    let w = was_mapped (λ (d : Cut). d.row) (slice_get c.args.book.now.cuts c.loop-index.index) c.cut-row.result.now c.cut-row.ensures.row in
    passed_at (λ (d : Cut). is_some (checked_sum d.row.terms c.args.sums.now)) c.args.book.now.cuts c.loop-index.index w.0
    (omega arith) w.1 c.loop-index.invariant
    (ap (λ (r : Row). is_some (checked_sum r.terms c.args.sums.now)) w.2 ∙ ap (λ ts. is_some (checked_sum ts c.args.sums.now)) (sym c.as_slice.ensures) ∙ sym c.sum_fits.ensures ∙ c.if-not-sum_fits.false)
