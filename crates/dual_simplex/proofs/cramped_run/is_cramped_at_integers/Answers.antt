use Rattle.std.proofs.Common.{sym, subst, take}
use Rattle.dual_simplex.specs.Ends.{IsAnswerThere}
use Rattle.dual_simplex.proofs.AnswerThere.{small_is_there}
use Rattle.dual_simplex.proofs.Stopping.{stop_is_there}
use Rattle.dual_simplex.proofs.cramped_run.is_cramped_at_integers.Goals as goal

pub is_cramped_at-requires-clause-there : goal.is_cramped_at-requires-clause-there
is_cramped_at-requires-clause-there c = λ q.
    subst (IsAnswerThere c.args.problem.now (take c.args.cuts c.args.book.now.cuts) c.args.area.now c.args.end.place) (sym c.into_final-tableau.ensures)
    (stop_is_there c.args.problem.now (take c.args.cuts c.args.book.now.cuts) c.args.area.now c.args.claim c.args.end.tableau c.args.end.place c.requires.stop
    (λ e. small_is_there c.args.problem.now (take c.args.cuts c.args.book.now.cuts) c.args.area.now c.requires.columns c.requires.integers c.args.end.tableau c.args.end.place e (c.is_small-is_there.ensures.small q)))
