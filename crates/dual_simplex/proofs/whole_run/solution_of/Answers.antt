use Rattle.std.proofs.Common.{sym, subst, take}
use Rattle.dual_simplex.specs.Ends.{IsAnswerThere}
use Rattle.dual_simplex.proofs.AnswerThere.{small_is_there}
use Rattle.dual_simplex.proofs.Ending.{is_end}
use Rattle.dual_simplex.proofs.whole_run.solution_of.Goals as goal

pub solution_at-requires-clause-there : goal.solution_at-requires-clause-there
solution_at-requires-clause-there g c = λ q.
    let tableau = g.T.WholeTableau.tableau_of c.args.tableau in
    let end = is_end c.args.problem.now (take c.args.cuts c.args.book.now.cuts) c.args.area.now tableau c.args.place c.requires.ends in
    subst (IsAnswerThere c.args.problem.now (take c.args.cuts c.args.book.now.cuts) c.args.area.now c.args.place) (sym c.into_final-tableau.ensures)
    (small_is_there c.args.problem.now (take c.args.cuts c.args.book.now.cuts) c.args.area.now c.requires.columns (c.requires.integers (c.is_small-is_there.ensures.integers q)) tableau c.args.place end (c.is_small-is_there.ensures.small q))
