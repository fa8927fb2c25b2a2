use Rattle.std.specs.Prelude.{IfSome}
use Rattle.std.proofs.Common.{◌≡◌, ap, sym, ◌∙◌, subst, Option, Some, None, take}
use Rattle.tableau.specs.Start.{started}
use Rattle.tableau.specs.Tableau.{Tableau}
use Rattle.dual_simplex.specs.Answers.{linear_program, run_of_start, answer_of_run}
use Rattle.dual_simplex.proofs.Ending.{run_is}
use Rattle.dual_simplex.proofs.fraction_run.solve_by_fractions.Goals as goal

pub run_on-requires-clause-rest : goal.run_on-requires-clause-rest
run_on-requires-clause-rest c =
    run_is c.args.problem.now c.args.book.now.cuts c.args.cuts c.args.area.now c.requires.few c.requires.columns c.pivot_limit-cap.result c.pivot_limit-cap.ensures.value
    c.in-Some.start (ap started (sym c.in_ok-program.ensures) ∙ sym c.in_ok-start.ensures.value ∙ c.in-Some.is)

-- at a cramped start there is no tableau
pub returns-in-None : goal.returns-in-None
returns-in-None c =
    let cs = take c.args.cuts c.args.book.now.cuts in
    let lp = linear_program c.args.problem.now cs c.args.area.now in
    let cramped : None ≡ started lp = sym (ap started (sym c.in_ok-program.ensures) ∙ sym c.in_ok-start.ensures.value ∙ c.in-None.is) in
    record {
      answer = ap (λ (o : Option Tableau). answer_of_run c.args.problem.now cs c.args.area.now (run_of_start lp o)) cramped;
      tableau = subst (λ (o : Option Tableau). IfSome (run_of_start lp o).tableau (λ t. None ≡ Some t)) cramped tt;
      pivots = subst (λ (o : Option Tableau). IfSome o (λ t. ⊥)) cramped tt;
    }
