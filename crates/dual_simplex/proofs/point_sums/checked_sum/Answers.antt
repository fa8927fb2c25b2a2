use Rattle.std.proofs.Common.{sym, ap, ◌∙◌}
use Rattle.dual_simplex.proofs.Sparse.{sum_of_terms, checked_sum-terms}
use Rattle.dual_simplex.proofs.point_sums.checked_sum.Goals as goal

pub loop-term-init : goal.loop-term-init
loop-term-init c = ap (λ s. sum_of_terms s c.args.terms.now c.args.point.now) c.of-total.ensures ∙ sym (checked_sum-terms c.args.point.now c.args.terms.now c.requires)
