use Rattle.std.proofs.Common.{ap, arith, List, length}
use Rattle.event_core.specs.declared.entry.Entry.{Entry}
use Rattle.event_core.specs.States.{State}
use Rattle.event_core.specs.Histories.{journaled}
use Rattle.node_journal.specs.Whole.{payloads_in}
use Rattle.node_pool.proofs.FreeNodes.{moved_nodes}
use Rattle.node_pool.proofs.Keeping.{given_same, leaves_given, halts_same}
use Rattle.node_pool.proofs.Releasing.{same_since}
use Rattle.node_pool.proofs.Standing.{after_given}
use Rattle.node_pool.proofs.pool.Pool.prepare.Goals as goal

pub invariant_of-self-2 : goal.invariant_of-self-2
invariant_of-self-2 g c =
    let old = c.args.self.now in
    let new = c.reserve_all.new.self in
    let disk = old.journal.disk in
    let ps = payloads_in (g.D.Disk.now disk) in
    let same = ap (λ (es : List Entry). journaled es) c.reserve_all.ensures.stays.history in
    let given = given_same old.state.history new.history old.halt same in
    record {
      listed = moved_nodes old.state.state new.state old.free.items c.reserve_for.new.free.items c.reserve_all.ensures.stays.state c.reserve_for.ensures.items old.listed;
      room = omega (arith, old.room, c.reserve_for.ensures.capacity, ap (λ (s : State). length s.nodes) c.reserve_all.ensures.stays.state);
      few = old.few;
      stands = λ told. after_given ps old.state.history new.history old.halt old.halt same given (old.stands told);
      upgraded = old.upgraded;
      crashes = λ told. leaves_given old.journal.opened (g.D.Disk.past disk) (g.D.Disk.now disk) old.state.history new.history old.halt old.halt same given (old.crashes told);
      halts = halts_same old.faults old.budget (g.D.Disk.count disk) old.journal.fault old.state.state new.state old.halt c.reserve_all.ensures.stays.state old.halts;
      released = λ halted. same_since _ _ _ c.reserve_all.ensures.stays.history (old.released halted);
    }
