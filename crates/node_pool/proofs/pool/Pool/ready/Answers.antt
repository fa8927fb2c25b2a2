use Rattle.std.proofs.Common.{ap, refl, arith, List, length}
use Rattle.event_core.specs.declared.entry.Entry.{Entry}
use Rattle.event_core.specs.States.{State}
use Rattle.event_core.specs.Histories.{journaled}
use Rattle.node_journal.specs.Whole.{payloads_in}
use Rattle.node_pool.proofs.FreeNodes.{moved_nodes}
use Rattle.node_pool.proofs.Keeping.{given_same, leaves_given, halts_same}
use Rattle.node_pool.proofs.Releasing.{same_since}
use Rattle.node_pool.proofs.Standing.{after_given}
use Rattle.node_pool.proofs.pool.Pool.ready.Goals as goal

pub invariant_of-self : goal.invariant_of-self
invariant_of-self g c =
    let old = c.args.self.now in
    let new = c.reserve.new.self in
    let disk = old.journal.disk in
    let ps = payloads_in (g.D.Disk.now disk) in
    let same = ap (λ (es : List Entry). journaled es) c.reserve.ensures.stays.history in
    let given = given_same old.state.history new.history old.halt same in
    record {
      listed = moved_nodes old.state.state new.state old.free.items old.free.items c.reserve.ensures.stays.state refl old.listed;
      room = omega (arith, old.room, ap (λ (s : State). length s.nodes) c.reserve.ensures.stays.state);
      few = old.few;
      stands = λ told. after_given ps old.state.history new.history old.halt old.halt same given (old.stands told);
      upgraded = old.upgraded;
      crashes = λ told. leaves_given old.journal.opened (g.D.Disk.past disk) (g.D.Disk.now disk) old.state.history new.history old.halt old.halt same given (old.crashes told);
      halts = halts_same old.faults old.budget (g.D.Disk.count disk) old.journal.fault old.state.state new.state old.halt c.reserve.ensures.stays.state old.halts;
      released = λ halted. same_since _ _ _ c.reserve.ensures.stays.history (old.released halted);
    }
