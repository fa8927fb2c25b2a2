use Rattle.std.proofs.Common.{◌+◌, ◌*◌, refl, length}
use Rattle.dual_simplex.proofs.Stopping.{stopped_run}
use Rattle.dual_simplex.proofs.cramped_run.run_to_claim.Goals as goal

pub is_cramped_at_integers-requires-clause-stop : goal.is_cramped_at_integers-requires-clause-stop
is_cramped_at_integers-requires-clause-stop c =
    stopped_run c.args.problem.now c.args.book.now.cuts c.args.cuts c.args.area.now c.requires.few c.requires.columns (20 * (length c.args.problem.now.spans + (length c.args.problem.now.rows + c.args.cuts)) + 100) refl
    c.args.start c.requires.start c.requires.fresh c.args.claim c.claimed_cap-cap.result c.claimed_cap-cap.ensures.limited c.claimed_cap-cap.ensures.enough
    c.in-Ok.end.place c.in-Ok.end.tableau c.in-Ok.ensures.value
