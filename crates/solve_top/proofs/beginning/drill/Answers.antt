use Rattle.std.specs.Prelude.{Err, None, Some, refl}
use Rattle.std.proofs.Common.{◌∙◌}
use Rattle.solve_top.specs.Outcomes.{without_disk}
use Rattle.solve_top.proofs.Opened.{kept_untouched}
use Rattle.solve_top.proofs.Performing.{alone_by, drilled_by, drilled_search}
use Rattle.solve_top.proofs.beginning.drill.Goals as goal

pub returns-in-Ok : goal.returns-in-Ok
returns-in-Ok g c = λ m stays. (
  refl,
  c.pool_is_ready.ensures,
  λ e cert s o h. record {
    alone = alone_by c.args.request.now m _ (record { none = refl; same = refl }) refl;
    outcome = drilled_by c.args.request.now c.args.seed _ c.requires.drills m _ cert (Some s) (without_disk o)
        (drilled_search c.args.request.now c.args.seed cert c.in-Ok.pool.state.state.problem s o h.within (h.read ∙ c.in-Ok.ensures.fresh) h.solution c.in-Ok.ensures.problem) stays refl (record { none = refl; same = refl });
    journal = λ told rests. kept_untouched g.D.Disk.tells g.D.Disk.past g.D.Disk.now g.D.Disk.count c.args.disk c.args.disk (record { none = refl; same = refl }) rests _;
  },
)

pub returns-in-Err : goal.returns-in-Err
returns-in-Err g c = λ m stays. (
  c.refused.ensures.last,
  λ cert nothing unwritten.
      rw (c.refused.ensures.status, c.refused.ensures.disk) (record {
        alone = alone_by c.args.request.now m _ (record { none = refl; same = refl }) refl;
        outcome = drilled_by c.args.request.now c.args.seed _ c.requires.drills m _ cert None (Err c.in-Err.refusal) (c.in-Err.ensures.refused, nothing, unwritten) stays refl (record { none = refl; same = refl });
        journal = λ told rests. kept_untouched g.D.Disk.tells g.D.Disk.past g.D.Disk.now g.D.Disk.count c.args.disk c.args.disk (record { none = refl; same = refl }) rests _;
      }),
)
