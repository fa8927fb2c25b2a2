use Rattle.std.specs.Prelude.{◌≡◌, length}
use Rattle.std.proofs.Common.{ap, ◌∙◌, sym, subst}
use Rattle.event_core.specs.Rooms.{Recorded}
use Rattle.node_pool.specs.declared.pool.Pool.{Pool}
use Rattle.worker_gate.specs.Legal.{IsRecorded}
use Rattle.worker_gate.specs.Kins.{IsKept}
use Rattle.worker_gate.proofs.Keeping.{kept_begins}
use Rattle.worker_gate.proofs.kin.Kin.make.Goals as goal

pub invariant_of-result : goal.invariant_of-result
invariant_of-result g c =
    let n = length c.history-count.result.now in
    let counted : n ≡ length c.args.pool.state.history = ap length (c.history-count.ensures ∙ ap (λ (r : Recorded). r.history) c.state-state.ensures) in
    let recorded : IsRecorded c.args.pool.state = subst IsRecorded c.state-state.ensures (record { state = c.conditions_hold.ensures.state; legal = c.conditions_hold.ensures.legal }) in
    subst (λ (f : Pool g.row.D.Denot g.D.Disk). IsKept f c.args.pool n n c.args.cuts c.args.workers) (sym c.of-first.ensures)
    (kept_begins c.args.pool n c.args.cuts c.args.workers counted c.requires.sound c.requires.few recorded)
