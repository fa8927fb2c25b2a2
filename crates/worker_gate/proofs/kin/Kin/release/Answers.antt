use Rattle.std.proofs.Common.{sym}
use Rattle.worker_gate.proofs.Following.{lasts_itself}
use Rattle.worker_gate.proofs.Asking.{release_call}
use Rattle.worker_gate.proofs.kin.Kin.release.Goals as goal

pub invariant_of-self : goal.invariant_of-self
invariant_of-self g c =
    let k = c.self.inside in
    let e = c.release.ensures in
    (release_call k.first.value k.pool c.release.new.self k.count k.stop k.cuts k.workers c.args.worker c.self.invariant c.args.self.now (sym c.self.view_is) c.args.node c.requires.holds c.requires.member e.released
    (lasts_itself k.pool c.release.new.self e.journal e.budget e.faults) e.halt).0

pub returns : goal.returns
returns g c =
    let k = c.self.inside in
    let e = c.release.ensures in
    (release_call k.first.value k.pool c.release.new.self k.count k.stop k.cuts k.workers c.args.worker c.self.invariant c.args.self.now (sym c.self.view_is) c.args.node c.requires.holds c.requires.member e.released
    (lasts_itself k.pool c.release.new.self e.journal e.budget e.faults) e.halt).1
