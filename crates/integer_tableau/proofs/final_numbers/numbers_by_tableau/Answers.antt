use Rattle.std.proofs.Common.{◌≤◌, subst, sym}
use Rattle.tableau.specs.Run.{EndsAs, run_from}
use Rattle.tableau.specs.Tableau.{Tableau}
use Rattle.integer_tableau.proofs.FinalEnds.{numbers_within}
use Rattle.integer_tableau.proofs.final_numbers.numbers_by_tableau.Goals as goal

pub returns-in_ok-final_numbers-in-Ok : goal.returns-in_ok-final_numbers-in-Ok
returns-in_ok-final_numbers-in-Ok c =
    let n = c.in_ok-final_numbers-in-Ok in
    record {
      numbers = λ cap start k. numbers_within cap start c.args.place c.in-Ok.tableau n.field-0 (subst (EndsAs (run_from cap start) c.args.place) (sym c.in-Ok.ensures) k.ends) k.exact
          (subst (λ (t : Tableau). t.pivots ≤ cap) (sym c.in-Ok.ensures) k.capped) n.ensures.place n.ensures.pivots n.ensures.numbers;
      given_up = tt;
    }
