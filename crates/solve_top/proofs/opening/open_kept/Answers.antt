use Rattle.std.proofs.Common.{inr}
use Rattle.node_journal.specs.Whole.{payloads_in}
use Rattle.resume.specs.Journals.{WasOpened}
use Rattle.solve_top.proofs.Opened.{before_or_begun, not_by_disk, same_before, same_model}
use Rattle.solve_top.proofs.opening.open_kept.Goals as goal

pub returns-in-Ok-clause-opened : goal.returns-in-Ok-clause-opened
returns-in-Ok-clause-opened g c = λ told.
    let before = g.D.Disk.now c.args.disk in
    let after = g.D.Disk.now c.in-Ok.pool.journal.disk in
    let was : WasOpened before.seen c.in-Ok.pool.state.state.problem c.in-Ok.pool.state.history (payloads_in after) = c.in-Ok.ensures.held told in record {
      next = c.in-Ok.ensures.opened told;
      begun = (c.history_holds.ensures.kept told).begun;
      held = inr (was.payloads, was.held, same_before _ _ before after was, was.stands);
      of_model = same_model _ _ before after was;
      stands = c.in-Ok.ensures.stands told;
      all = c.in-Ok.ensures.kept told;
      kept = c.in-Ok.ensures.history told;
      any_moment = λ rests. before_or_begun _ _ _ _ _ _ (c.in-Ok.ensures.any_moment told rests);
    }

pub returns-in-Err-clause-kept : goal.returns-in-Err-clause-kept
returns-in-Err-clause-kept g c = λ told rests. record {
  history = λ ps held. (c.in-Err.ensures.history_err told rests ps held).history;
  prefixes = λ ps held calm. (c.in-Err.ensures.history_err told rests ps held).prefixes (not_by_disk _ _ _ c.in-Err.ensures.cause_err calm);
  any_moment = before_or_begun _ _ _ _ _ _ (c.in-Err.ensures.any_moment_err told rests);
  rests = λ calm. c.in-Err.ensures.rests_err told rests (not_by_disk _ _ _ c.in-Err.ensures.cause_err calm);
}

pub returns-in-Ok-clause-stood : goal.returns-in-Ok-clause-stood
returns-in-Ok-clause-stood g c = λ told. let was = c.in-Ok.ensures.held told in (was.payloads, was.held, was.stands)
