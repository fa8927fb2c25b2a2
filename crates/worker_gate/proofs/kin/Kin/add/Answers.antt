use Rattle.std.specs.Prelude.{length}
use Rattle.std.proofs.Common.{sym, ap, ◌∙◌}
use Rattle.event_core.specs.Rooms.{Recorded}
use Rattle.worker_gate.proofs.Following.{Lasts}
use Rattle.worker_gate.proofs.Adding.{add_call}
use Rattle.worker_gate.proofs.kin.Kin.add.Goals as goal

pub invariant_of-self : goal.invariant_of-self
invariant_of-self g c =
    let k = c.self.inside in
    let e = c.commit_all-answer.ensures in
    let lasts : Lasts k.pool c.commit_all-answer.new.self = record { moments = e.continued; model = e.model; opened = e.opened; budget = e.budget; faults = e.faults } in
    (add_call k.first.value k.pool k.count k.cuts k.workers k.stop c.self.invariant c.args.self.now (sym c.self.view_is) c.args.worker c.args.events.items c.requires.member c.requires.unhalted c.requires.legal c.requires.alone c.requires.few c.commit_all-answer.new.self lasts
    (length c.history.result.now) (ap length (c.history.ensures ∙ ap (λ (r : Recorded). r.history) c.state.ensures)) _ _ c.history_holds.ensures.halted c.commit_all-answer.result e.applied e.count e.unchanged e.halted e.spent e.halt).0

pub returns : goal.returns
returns g c =
    let k = c.self.inside in
    let e = c.commit_all-answer.ensures in
    let lasts : Lasts k.pool c.commit_all-answer.new.self = record { moments = e.continued; model = e.model; opened = e.opened; budget = e.budget; faults = e.faults } in
    (add_call k.first.value k.pool k.count k.cuts k.workers k.stop c.self.invariant c.args.self.now (sym c.self.view_is) c.args.worker c.args.events.items c.requires.member c.requires.unhalted c.requires.legal c.requires.alone c.requires.few c.commit_all-answer.new.self lasts
    (length c.history.result.now) (ap length (c.history.ensures ∙ ap (λ (r : Recorded). r.history) c.state.ensures)) _ _ c.history_holds.ensures.halted c.commit_all-answer.result e.applied e.count e.unchanged e.halted e.spent e.halt).1
