use Rattle.std.specs.Prelude.{◌≡◌, ◌⊎◌, ℕ, List, []}
use Rattle.std.proofs.Common.{subst, sym, ◌∙◌}
use Rattle.problem.specs.Problem.{Problem}
use Rattle.outside.specs.Images.{LeavesOnly, NoMomentPasses}
use Rattle.node_journal.specs.Records.{Intact, records}
use Rattle.node_journal.specs.Whole.{payloads_in}
use Rattle.resume.specs.Crashes.{IsAsBeforeOrBegun}
use Rattle.resume.specs.Journals.{StandsFor, WasOpened, IsFreshOrOf}
use Rattle.resume.specs.Refusals.{Refuses, RefusesPayloadsFor}
use Rattle.solve_top.specs.declared.outcome.Refusal.{Refusal}
use Rattle.solve_top.specs.Changes.{disk_change}
use Rattle.solve_top.specs.Journals.{IsUnopened}
use Rattle.solve_top.specs.Models.{record_of}
use Rattle.solve_top.proofs.Opened.{held_events, not_by_disk, record_is, unopened_by}
use Rattle.solve_top.proofs.opening.open_of.Goals as goal

pub returns-in-Ok-clause-opened : goal.returns-in-Ok-clause-opened
returns-in-Ok-clause-opened g c = λ told.
    let is = record_is c.args.model.text.items _ c.args.upper c.recorded.ensures in record {
      next = c.in-Ok.ensures.opened told;
      begun = (c.history_holds.ensures.kept told).begun;
      held = held_events _ _ _ (g.D.Disk.now c.args.disk).seen _
          (subst (λ (p : Problem). WasOpened (g.D.Disk.now c.args.disk).seen p c.in-Ok.pool.state.history (payloads_in (g.D.Disk.now c.in-Ok.pool.journal.disk)) ⊎ ((records (g.D.Disk.now c.args.disk).seen ≡ Intact []) × (c.in-Ok.pool.state.history ≡ []))) (sym c.in-Ok.ensures.problem) (c.in-Ok.ensures.held told)) (c.in-Ok.ensures.model told ∙ is);
      of_model = c.in-Ok.ensures.model told ∙ is;
      stands = subst (λ (p : Problem). StandsFor p (payloads_in (g.D.Disk.now c.in-Ok.pool.journal.disk)) c.in-Ok.pool.state.history) (sym c.in-Ok.ensures.problem) (c.in-Ok.ensures.stands told);
      all = c.in-Ok.ensures.kept told;
      kept = c.in-Ok.ensures.history told;
      any_moment = λ rests.
          subst (λ (l : List ℕ). LeavesOnly (g.D.Disk.past c.args.disk) (g.D.Disk.now c.args.disk) (g.D.Disk.past c.in-Ok.pool.journal.disk) (g.D.Disk.now c.in-Ok.pool.journal.disk) (IsAsBeforeOrBegun (records (g.D.Disk.now c.args.disk).seen) l)) is
          (c.in-Ok.ensures.any_moment told rests);
    }

pub returns-in-Err-clause-unopened : goal.returns-in-Err-clause-unopened
returns-in-Err-clause-unopened g c =
    let is = record_is c.args.model.text.items _ c.args.upper c.recorded.ensures in
    let d = disk_change g.D.Disk.tells g.D.Disk.past g.D.Disk.now g.D.Disk.count c.args.disk c.in-Err.disk in
    subst (λ (r : Refusal). IsUnopened (λ f. Refuses (RefusesPayloadsFor (record_of c.args.model.text.items c.args.upper)) f (records (g.D.Disk.now c.args.disk).seen)) d r) (sym c.from.ensures)
    (unopened_by (λ f. Refuses (RefusesPayloadsFor (record_of c.args.model.text.items c.args.upper)) f (records (g.D.Disk.now c.args.disk).seen)) d c.in-Err.fault
    (λ told. subst (λ (l : List ℕ). Refuses (RefusesPayloadsFor l) c.in-Err.fault (records (g.D.Disk.now c.args.disk).seen)) is (c.in-Err.ensures.refused told))
    c.in-Err.ensures.cause_err c.in-Err.ensures.untouched)

pub returns-in-Err-clause-kept : goal.returns-in-Err-clause-kept
returns-in-Err-clause-kept g c = λ told rests.
    let is = record_is c.args.model.text.items _ c.args.upper c.recorded.ensures in record {
      history = λ ps held. (c.in-Err.ensures.history_err told rests ps held).history;
      prefixes = λ ps held calm. (c.in-Err.ensures.history_err told rests ps held).prefixes (not_by_disk _ _ _ c.in-Err.ensures.cause_err calm);
      any_moment =
          subst (λ (l : List ℕ). LeavesOnly (g.D.Disk.past c.args.disk) (g.D.Disk.now c.args.disk) (g.D.Disk.past c.in-Err.disk) (g.D.Disk.now c.in-Err.disk) (IsAsBeforeOrBegun (records (g.D.Disk.now c.args.disk).seen) l)) is
          (c.in-Err.ensures.any_moment_err told rests);
      rests = λ calm. c.in-Err.ensures.rests_err told rests (not_by_disk _ _ _ c.in-Err.ensures.cause_err calm);
    }

pub returns-in-Err-clause-spared : goal.returns-in-Err-clause-spared
returns-in-Err-clause-spared g c = λ told.
    let is = record_is c.args.model.text.items _ c.args.upper c.recorded.ensures in
    subst (λ (l : List ℕ). NoMomentPasses (g.D.Disk.past c.args.disk) (g.D.Disk.now c.args.disk) (g.D.Disk.past c.in-Err.disk) (g.D.Disk.now c.in-Err.disk) ⊎ IsFreshOrOf l c.args.model.problem (g.D.Disk.now c.args.disk).seen) is
    (c.in-Err.ensures.spared told)
