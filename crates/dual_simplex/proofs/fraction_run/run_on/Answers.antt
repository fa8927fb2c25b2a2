use Rattle.std.proofs.Common.{ap, take, arith}
use Rattle.tableau.specs.Run.{run_from}
use Rattle.tableau.specs.Tableau.{Tableau}
use Rattle.dual_simplex.proofs.Ending.{ends_so}
use Rattle.dual_simplex.proofs.fraction_run.run_on.Goals as goal

pub solution_at-requires-clause-ends : goal.solution_at-requires-clause-ends
solution_at-requires-clause-ends c =
    ends_so c.args.problem.now (take c.args.cuts c.args.book.now.cuts) c.args.area.now (run_from c.args.cap c.args.tableau) c.run.new.self c.of_fractions-tableau.result c.in_ok-place.place
    c.requires.rest c.of_fractions-tableau.ensures c.in_ok-place.ensures.value

pub solution_at-requires-clause-few_pivots : goal.solution_at-requires-clause-few_pivots
solution_at-requires-clause-few_pivots c = omega (arith, ap (λ (t : Tableau). t.pivots) c.of_fractions-tableau.ensures, c.run.ensures.capped, c.requires.few_pivots)
