use Rattle.std.proofs.Common.{◌∙◌, ap, rules}
use Rattle.std.specs.Prelude.{pos, ◌*ℤ◌}
use Rattle.std.specs.Int.{w128}
use Rattle.std.specs.Ordering.{int_cmp}
use Rattle.std.proofs.lemmas.Int.{to_z-of_z}
use mir.Val.{SFits}
use Rattle.dual_simplex.specs.Scaled.{point_over}
use Rattle.dual_simplex.proofs.Scaling.{compared}
use Rattle.dual_simplex.proofs.scaled_point.ScaledPoint.compare.Goals as goal

pub returns : goal.returns
returns c =
    let d = c.self.inside.denominator in
    let sum_fits : SFits w128 c.in_ok-sum.sum = search rules in
    let side_fits : SFits w128 c.in_ok-side.side = search rules in
    let right_fits : SFits w128 c.numerator_of_side.result = search rules in
    compared c.args.terms.now c.deref.result.now c.args.self.now d c.in_ok-sum.sum c.numerator_of_side.result c.args.rhs c.cmp.result
    (ap (point_over d) c.deref.ensures.value ∙ c.self.view_is) c.self.invariant.0 c.in_ok-sum.ensures.value c.in_ok-side.ensures.integer
    (c.numerator_of_side.ensures ∙ ap (λ z. z *ℤ pos d) (to_z-of_z w128 c.in_ok-side.side side_fits ∙ c.in_ok-side.ensures.value))
    (c.cmp.ensures ∙ (λ i. int_cmp (to_z-of_z w128 c.in_ok-sum.sum sum_fits i) (to_z-of_z w128 c.numerator_of_side.result right_fits i)))
