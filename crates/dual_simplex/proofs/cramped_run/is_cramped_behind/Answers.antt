use Rattle.std.proofs.Common.{◌≡◌, ◌+◌, ◌-◌, ◌*◌, arith, refl, ap, sym, ◌∙◌, subst, length, take}
use Rattle.tableau.specs.Run.{RunEnd, run_from}
use Rattle.dual_simplex.specs.Claims.{IsStoppedRun}
use Rattle.dual_simplex.proofs.Ending.{few_variables}
use Rattle.dual_simplex.proofs.cramped_run.is_cramped_behind.Goals as goal

pub is_cramped_on-requires-clause-few_variables : goal.is_cramped_on-requires-clause-few_variables
is_cramped_on-requires-clause-few_variables c =
    few_variables c.args.problem.now c.args.book.now.cuts c.args.cuts c.args.area.now c.requires.few c.requires.columns (20 * (length c.args.problem.now.spans + (length c.args.problem.now.rows + c.args.cuts)) + 100) refl
    c.args.start c.requires.start c.args.pivots c.in-Some.last c.in-Some.ensures.goes_on c.requires.numbered

pub is_cramped_on-requires-clause-stops : goal.is_cramped_on-requires-clause-stops
is_cramped_on-requires-clause-stops c =
    let e : c.args.pivots + (c.args.cap - c.args.pivots) ≡ c.args.cap = omega (arith, c.requires.within) in
    subst (λ (r : RunEnd). IsStoppedRun c.args.problem.now (take c.args.cuts c.args.book.now.cuts) c.args.area.now c.args.claim r)
    (sym (c.in-Some.ensures.goes_on (c.args.cap - c.args.pivots) ∙ ap (λ n. run_from n c.args.start) e))
    c.requires.stops
