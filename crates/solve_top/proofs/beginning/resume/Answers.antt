use Rattle.std.proofs.Common.{inr}
use Rattle.node_journal.specs.Records.{records}
use Rattle.node_journal.specs.Whole.{payloads_in}
use Rattle.node_pool.specs.Payloads.{model_in}
use Rattle.resume.specs.Refusals.{Refuses, RefusesPayloads}
use Rattle.solve_top.specs.Changes.{disk_change}
use Rattle.solve_top.proofs.Continuing.{came_to_nothing, went_on}
use Rattle.solve_top.proofs.Opened.{model_opened, stands_some}
use Rattle.solve_top.proofs.Owning.{resume_about, resume_began, resume_no_event, resume_own_model, resume_read, resume_refuses}
use Rattle.solve_top.proofs.Performing.{alone_resumed}
use Rattle.solve_top.proofs.beginning.resume.Goals as goal

pub returns-in-Ok : goal.returns-in-Ok
returns-in-Ok g c = λ m stays.
    let opened = c.in-Ok in
    let pool = opened.pool in
    let model = model_in (payloads_in (g.D.Disk.now c.args.disk)) in (
      c.pool_is_ready.ensures,
      λ e cert s o h.
          let d = disk_change g.D.Disk.tells g.D.Disk.past g.D.Disk.now g.D.Disk.count c.args.disk e in
          let w = went_on g.D.Disk.tells g.D.Disk.past g.D.Disk.now g.D.Disk.count c.args.disk pool.journal.disk e c.args.request.now m model pool.state.state.problem pool.state.history pool.journal.opened
          opened.ensures.opened opened.ensures.cause h.seen
          (resume_about c.args.request.now _ m d c.requires.resumes c.records_tell_apart.ensures pool.state.state.problem
          (λ told. model_opened model pool.state.state.problem pool.state.history pool.journal.opened _ (opened.ensures.opened told)))
          (resume_began c.args.request.now _ m d c.requires.resumes pool.state.state.problem pool.state.history opened.ensures.stood)
          h.model cert s o h.within h.read h.solution h.cause h.kept h.stands h.leaves in
          record {
            alone = alone_resumed c.args.request.now _ m d c.requires.resumes (λ told. inr (stands_some _ _ (g.D.Disk.now c.args.disk).seen (opened.ensures.stood told)));
            outcome = w.0 stays;
            journal = w.1;
          },
    )

pub returns-in-Err : goal.returns-in-Err
returns-in-Err g c = λ m stays. (
  c.refused.ensures.last,
  λ cert nothing unwritten.
      let refused = c.in-Err in
      let d = disk_change g.D.Disk.tells g.D.Disk.past g.D.Disk.now g.D.Disk.count c.args.disk refused.disk in
      let h = came_to_nothing c.args.request.now m d cert (model_in (payloads_in (g.D.Disk.now c.args.disk)))
      (λ f. Refuses RefusesPayloads f (records (g.D.Disk.now c.args.disk).seen)) (resume_refuses c.args.request.now _ m d c.requires.resumes)
      (resume_read c.args.request.now _ m d c.requires.resumes) (resume_own_model c.args.request.now _ m d c.requires.resumes) (resume_no_event c.args.request.now _ m d c.requires.resumes)
      refused.refusal refused.ensures.unopened refused.ensures.kept nothing unwritten in
      rw (c.refused.ensures.status, c.refused.ensures.disk) (record {
        alone = alone_resumed c.args.request.now _ m d c.requires.resumes refused.ensures.spared;
        outcome = h.0 stays;
        journal = h.1;
      }),
)
