use Rattle.std.proofs.Common.{◌≡◌, drop}
use Rattle.dual_simplex.specs.PointSums.{checked_sum}
use Rattle.dual_simplex.proofs.Sparse.{sum_of_terms}
use Rattle.dual_simplex.proofs.point_sums.checked_sum.Given as goal

abbrev pub invariant-loop-term : goal.invariant-loop-term
invariant-loop-term l = sum_of_terms l.total (drop l.term-index l.terms) l.point ≡ checked_sum l.terms l.point
