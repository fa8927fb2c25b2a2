use Rattle.std.specs.Prelude.{is_some}
use Rattle.std.proofs.Common.{sym, ap, ◌∙◌, arith, length}
use Rattle.std.specs.List.{list_all}
use Rattle.std.proofs.lemmas.List.{take_all}
use Rattle.problem.specs.declared.row.Row.{Row}
use Rattle.dual_simplex.specs.PointSums.{checked_sum}
use Rattle.dual_simplex.specs.Lemmas.EachOne.{failed_at, passed_at}
use Rattle.dual_simplex.proofs.sums.row_sums_fit.Goals as goal

pub returns-then-not-sum_fits : goal.returns-then-not-sum_fits
returns-then-not-sum_fits c =
    let rows = c.args.problem.now.rows in
    failed_at (λ (r : Row). is_some (checked_sum r.terms c.args.sums.now)) c.args.problem.now.rows (length c.args.problem.now.rows) c.loop-index.index c.row-row.result.now
    (omega arith) (omega arith) c.row-row.ensures
    (ap (λ ts. is_some (checked_sum ts c.args.sums.now)) (sym c.as_slice.ensures) ∙ sym c.sum_fits.ensures ∙ c.if-not-sum_fits.true)
    ∙ ap (list_all (λ (r : Row). is_some (checked_sum r.terms c.args.sums.now))) (take_all (length c.args.problem.now.rows) c.args.problem.now.rows (omega arith))

pub loop-index-preserved : goal.loop-index-preserved
loop-index-preserved c =
    passed_at (λ (r : Row). is_some (checked_sum r.terms c.args.sums.now)) c.args.problem.now.rows c.loop-index.index c.row-row.result.now
    (omega arith) c.row-row.ensures c.loop-index.invariant
    (ap (λ ts. is_some (checked_sum ts c.args.sums.now)) (sym c.as_slice.ensures) ∙ sym c.sum_fits.ensures ∙ c.if-not-sum_fits.false)
