use Rattle.std.specs.Prelude.{refl}
use Rattle.std.proofs.Common.{inr, subst}
use Rattle.node_journal.specs.Records.{records}
use Rattle.resume.specs.Refusals.{Refuses, RefusesPayloadsFor}
use Rattle.solve_top.specs.Changes.{disk_change, source_change}
use Rattle.solve_top.specs.Models.{record_of}
use Rattle.solve_top.specs.Requests.{HasRanges}
use Rattle.solve_top.proofs.Continuing.{came_to_nothing, went_on}
use Rattle.solve_top.proofs.Opened.{kept_untouched, own_content}
use Rattle.solve_top.proofs.Owning.{solve_about, solve_began, solve_no_event, solve_own_model, solve_read, solve_refuses, solve_spared}
use Rattle.solve_top.proofs.Performing.{alone_by, alone_searched, unread}
use Rattle.solve_top.proofs.beginning.solve.Goals as goal

pub returns-in-Err : goal.returns-in-Err
returns-in-Err g c = (
  c.refused.ensures.last,
  λ cert nothing unwritten. rw (c.refused.ensures.status, c.refused.ensures.disk) (record {
    alone = alone_by c.args.request.now _ _ (record { none = refl; same = refl }) refl;
    outcome = unread c.args.request.now _ c.args.upper c.requires.solves (source_change g.S.Source.tells g.S.Source.left g.S.Source.faults c.args.model.now c.read_model.new.model)
        (disk_change g.D.Disk.tells g.D.Disk.past g.D.Disk.now g.D.Disk.count c.args.disk c.args.disk) cert c.in-Err.refusal c.in-Err.ensures refl (record { none = refl; same = refl }) nothing unwritten;
    journal = λ told rests. kept_untouched g.D.Disk.tells g.D.Disk.past g.D.Disk.now g.D.Disk.count c.args.disk c.args.disk (record { none = refl; same = refl }) rests _;
  }),
)

pub returns-in-Ok-open_of : goal.returns-in-Ok-open_of
returns-in-Ok-open_of g c =
    let read = c.in-Ok in
    let opened = c.in-Ok-open_of in
    let pool = opened.pool in
    let m = source_change g.S.Source.tells g.S.Source.left g.S.Source.faults c.args.model.now c.read_model.new.model in (
      c.pool_is_ready.ensures,
      λ e cert s o h.
          let d = disk_change g.D.Disk.tells g.D.Disk.past g.D.Disk.now g.D.Disk.count c.args.disk e in
          let w = went_on g.D.Disk.tells g.D.Disk.past g.D.Disk.now g.D.Disk.count c.args.disk pool.journal.disk e c.args.request.now m (record_of read.read.text.items c.args.upper) pool.state.state.problem
          pool.state.history pool.journal.opened opened.ensures.opened opened.ensures.cause h.seen
          (solve_about c.args.request.now _ c.args.upper m d read.read.text.items c.requires.solves read.ensures.0 pool.state.state.problem opened.ensures.reads_as)
          (solve_began c.args.request.now _ c.args.upper m d read.read.text.items c.requires.solves read.ensures.0 pool.state.state.problem pool.state.history (λ told. (opened.ensures.opened told).held))
          h.model cert s o h.within h.read h.solution h.cause h.kept h.stands h.leaves in
          record {
            alone = alone_searched c.args.request.now _ c.args.upper m d c.requires.solves
                (solve_spared c.args.request.now _ c.args.upper m d read.read.text.items c.requires.solves read.ensures.0 pool.state.state.problem opened.ensures.reads_as
                (λ told. inr (own_content _ _ _ (g.D.Disk.now c.args.disk).seen (opened.ensures.opened told).held)));
            outcome = w.0 read.ensures.2;
            journal = w.1;
          },
    )

pub returns-in-Err-open_of : goal.returns-in-Err-open_of
returns-in-Err-open_of g c =
    let read = c.in-Ok in
    let refused = c.in-Err-open_of in
    let m = source_change g.S.Source.tells g.S.Source.left g.S.Source.faults c.args.model.now c.read_model.new.model in
    let d = disk_change g.D.Disk.tells g.D.Disk.past g.D.Disk.now g.D.Disk.count c.args.disk refused.disk in
    let model = record_of read.read.text.items c.args.upper in (
      c.refused-in-Err-open_of.ensures.last,
      λ cert nothing unwritten.
          let h = came_to_nothing c.args.request.now m d cert model (λ f. Refuses (RefusesPayloadsFor model) f (records (g.D.Disk.now c.args.disk).seen))
          (solve_refuses c.args.request.now _ c.args.upper m d read.read.text.items c.requires.solves read.ensures.0)
          (solve_read c.args.request.now _ c.args.upper m d read.read.text.items c.requires.solves read.ensures.0 read.read.problem read.ensures.1)
          (solve_own_model c.args.request.now _ c.args.upper m d read.read.text.items c.requires.solves read.ensures.0 (subst HasRanges c.requires.solves c.requires.ranges).1)
          (solve_no_event c.args.request.now _ c.args.upper m d read.read.text.items c.requires.solves read.ensures.0)
          refused.refusal refused.ensures.unopened refused.ensures.kept nothing unwritten in
          rw (c.refused-in-Err-open_of.ensures.status, c.refused-in-Err-open_of.ensures.disk) (record {
            alone = alone_searched c.args.request.now _ c.args.upper m d c.requires.solves
                (solve_spared c.args.request.now _ c.args.upper m d read.read.text.items c.requires.solves read.ensures.0 read.read.problem read.ensures.1 refused.ensures.spared);
            outcome = h.0 read.ensures.2;
            journal = h.1;
          }),
    )
