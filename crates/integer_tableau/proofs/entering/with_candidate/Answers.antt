use Rattle.std.proofs.Common.{◌∙◌, ◌&&◌, ap, sym, nat_abs, w64, false, get_or, None}
use Rattle.std.proofs.lemmas.Int.{to_z-of_z}
use Rattle.integer_tableau.specs.IntegerTableau.{fraction_bounds}
use Rattle.integer_tableau.specs.Entering.{is_eligible_at}
use Rattle.tableau.specs.Leaving.{bounds_differ}
use Rattle.integer_tableau.proofs.Candidates.{still_best_by_bound, still_best_by_order}
use Rattle.integer_tableau.proofs.entering.with_candidate.Goals as goal
use Rattle.integer_tableau.proofs.entering.with_candidate.Goals.{else-comes_first-via-then-comes_first+else-may_enter, else-comes_first-via-else-comes_first}

pub returns-else-comes_first-clause-value : goal.returns-else-comes_first-clause-value
returns-else-comes_first-clause-value c =
    let a = c.args in
    let u = get_or a.at_upper.now a.variable false in
    let b = fraction_bounds (get_or a.bounds.now a.variable (record { lower = None; upper = None })) in
    elim c.else-comes_first.branch [
      | else-comes_first-via-then-comes_first+else-may_enter w ↦ still_best_by_bound a.variable a.direction u b a.reduced_cost a.numerator a.best
          (sym (w.may_enter.ensures ∙ ap (λ z. is_eligible_at a.direction u z && bounds_differ b) (to_z-of_z w64 a.numerator c.ranges.numerator)) ∙ w.if-may_enter.false)
      | else-comes_first-via-else-comes_first w ↦ still_best_by_order a.variable a.direction u b a.reduced_cost a.numerator a.best _ _
          (c.unsigned_abs.ensures.value ∙ ap nat_abs (to_z-of_z w64 a.reduced_cost c.ranges.reduced_cost)) (c.unsigned_abs-2.ensures.value ∙ ap nat_abs (to_z-of_z w64 a.numerator c.ranges.numerator)) c.requires.great (sym c.comes_first.ensures ∙ w.if-comes_first.false)
    ]
