use Rattle.std.specs.Prelude.{◌≡◌, length, None}
use Rattle.std.proofs.Common.{sym, ap, ◌∙◌}
use Rattle.event_core.specs.Rooms.{Recorded}
use Rattle.worker_gate.proofs.Following.{lasts_itself}
use Rattle.worker_gate.proofs.Asking.{none_copied, halt_call}
use Rattle.worker_gate.proofs.kin.Kin.halt.Goals as goal

pub invariant_of-self : goal.invariant_of-self
invariant_of-self g c =
    let k = c.self.inside in
    let e = c.halt.ensures in
    let unhalted : k.pool.halt ≡ None = none_copied c.halted.result k.pool.halt c.halted.ensures (sym c.is_some.ensures ∙ c.if-is_some.false) in
    (halt_call k.first.value k.pool c.halt.new.self k.count k.stop k.cuts k.workers c.self.invariant c.args.self.now (sym c.self.view_is) record { state = ap (λ (r : Recorded). r.state) e.state; history = ap (λ (r : Recorded). r.history) e.state }
    (lasts_itself k.pool c.halt.new.self e.journal e.budget e.faults) unhalted e.halt (length c.history.result.now) (ap length (c.history.ensures ∙ ap (λ (r : Recorded). r.history) c.state.ensures))).0

pub returns : goal.returns
returns g c w =
    let k = c.self.inside in
    let e = c.halt.ensures in
    let unhalted : k.pool.halt ≡ None = none_copied c.halted.result k.pool.halt c.halted.ensures (sym c.is_some.ensures ∙ c.if-is_some.false) in
    (halt_call k.first.value k.pool c.halt.new.self k.count k.stop k.cuts k.workers c.self.invariant c.args.self.now (sym c.self.view_is) record { state = ap (λ (r : Recorded). r.state) e.state; history = ap (λ (r : Recorded). r.history) e.state }
    (lasts_itself k.pool c.halt.new.self e.journal e.budget e.faults) unhalted e.halt (length c.history.result.now) (ap length (c.history.ensures ∙ ap (λ (r : Recorded). r.history) c.state.ensures))).1 w
