use Rattle.std.proofs.Common.{arith}
use Rattle.dual_simplex.proofs.Ending.{rest_is, few_variables}
use Rattle.dual_simplex.proofs.whole_run.solve_from.Goals as goal

pub fractions-requires : goal.fractions-requires
fractions-requires g c =
    few_variables c.args.problem.now c.args.book.now.cuts c.args.cuts c.args.area.now c.requires.few c.requires.columns c.pivot_limit-limit.result c.pivot_limit-limit.ensures.value
    (g.T.WholeTableau.tableau_of c.args.start) c.requires.start c.args.pivots (g.T.WholeTableau.tableau_of c.in-Some.last) c.in-Some.ensures.goes_on c.pivot_limit-limit.ensures.few

pub run_on-requires-clause-rest : goal.run_on-requires-clause-rest
run_on-requires-clause-rest g c =
    let same = rw c.in-Some-2.is at c.in_ok-tableau.ensures in
    rest_is c.args.problem.now c.args.book.now.cuts c.args.cuts c.args.area.now c.requires.few c.requires.columns c.pivot_limit-limit.result c.pivot_limit-limit.ensures.value
    (g.T.WholeTableau.tableau_of c.args.start) c.requires.start c.args.pivots (g.T.WholeTableau.tableau_of c.in-Some.last) c.in-Some-2.tableau (omega (arith, c.requires.within, c.pivot_limit-limit.ensures.value)) c.in-Some.ensures.goes_on same
