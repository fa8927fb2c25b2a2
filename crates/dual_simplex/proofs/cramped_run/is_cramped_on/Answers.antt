use Rattle.std.proofs.Common.{ap, sym, subst, take}
use Rattle.tableau.specs.Run.{RunEnd, run_from}
use Rattle.dual_simplex.specs.Claims.{IsStoppedRun}
use Rattle.dual_simplex.proofs.cramped_run.is_cramped_on.Goals as goal

pub is_cramped_from-requires-clause-stops : goal.is_cramped_from-requires-clause-stops
is_cramped_from-requires-clause-stops c =
    subst (λ (r : RunEnd). IsStoppedRun c.args.problem.now (take c.args.cuts c.args.book.now.cuts) c.args.area.now c.args.claim r) (sym (ap (run_from c.args.cap) c.in_ok-tableau.ensures))
    c.requires.stops
