use Rattle.std.proofs.Common.{◌≡◌, take, true}
use Rattle.std.specs.Prelude.{is_some}
use Rattle.std.specs.List.{list_all}
use Rattle.problem.specs.declared.row.Row.{Row}
use Rattle.dual_simplex.specs.PointSums.{checked_sum}
use Rattle.dual_simplex.proofs.sums.row_sums_fit.Given as goal

abbrev pub invariant-loop-index : goal.invariant-loop-index
invariant-loop-index l = list_all (λ (r : Row). is_some (checked_sum r.terms l.sums)) (take l.index l.problem.rows) ≡ true
