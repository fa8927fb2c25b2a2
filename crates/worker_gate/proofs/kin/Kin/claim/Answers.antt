use Rattle.std.proofs.Common.{sym}
use Rattle.worker_gate.proofs.Following.{lasts_itself}
use Rattle.worker_gate.proofs.Asking.{claim_call}
use Rattle.worker_gate.proofs.kin.Kin.claim.Goals as goal

pub invariant_of-self-2 : goal.invariant_of-self-2
invariant_of-self-2 g c =
    let k = c.self.inside in
    let m = c.ready.new.self in
    let b = c.claim.new.self in
    let e = c.claim.ensures in
    (claim_call k.first.value k.pool m b k.count k.stop k.cuts k.workers c.args.worker c.self.invariant c.ready.ensures.stays
    (lasts_itself k.pool m c.ready.ensures.journal c.ready.ensures.budget c.ready.ensures.faults) c.ready.ensures.halt c.args.self.now (sym c.self.view_is) c.requires.none c.requires.member
    (lasts_itself m b e.journal e.budget e.faults) e.halt c.claim.result e.answer e.claimed e.idle e.done e.halted).0

pub returns : goal.returns
returns g c =
    let k = c.self.inside in
    let m = c.ready.new.self in
    let b = c.claim.new.self in
    let e = c.claim.ensures in
    (claim_call k.first.value k.pool m b k.count k.stop k.cuts k.workers c.args.worker c.self.invariant c.ready.ensures.stays
    (lasts_itself k.pool m c.ready.ensures.journal c.ready.ensures.budget c.ready.ensures.faults) c.ready.ensures.halt c.args.self.now (sym c.self.view_is) c.requires.none c.requires.member
    (lasts_itself m b e.journal e.budget e.faults) e.halt c.claim.result e.answer e.claimed e.idle e.done e.halted).1
