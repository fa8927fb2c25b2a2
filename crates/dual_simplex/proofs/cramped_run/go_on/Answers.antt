use Rattle.std.proofs.Common.{◌+◌, ◌*◌, refl, length}
use Rattle.dual_simplex.proofs.Stopping.{stopped_run}
use Rattle.dual_simplex.proofs.cramped_run.go_on.Goals as goal

pub is_cramped_behind-requires-clause-stops : goal.is_cramped_behind-requires-clause-stops
is_cramped_behind-requires-clause-stops c =
    let start = rw c.in-Some.is at c.in_ok-start.ensures.value in
    let fresh = rw c.in-Some.is at c.in_ok-start.ensures.pivots in
    stopped_run c.args.problem.now c.args.book.now.cuts c.args.cuts c.args.area.now c.requires.few c.requires.columns (20 * (length c.args.problem.now.spans + (length c.args.problem.now.rows + c.args.cuts)) + 100) refl
    c.in-Some.start start fresh c.args.claim c.args.cap c.requires.limited c.requires.enough
