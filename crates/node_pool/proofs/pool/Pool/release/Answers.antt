use Rattle.std.proofs.Common.{ap, refl, sym, subst, arith, length, Some}
use Rattle.node_events.specs.declared.event.Event.TheVariants as event
use Rattle.event_core.specs.declared.admit.Admit.TheVariants.{Yes, NotOpen, NotYours}
use Rattle.event_core.specs.States.{State, is_open}
use Rattle.event_core.specs.Holds.{holds_node}
use Rattle.event_core.specs.Lemmas.Passing.{passing}
use Rattle.node_journal.specs.Whole.{payloads_in}
use Rattle.node_pool.specs.Free.{AreFreeNodes}
use Rattle.node_pool.proofs.FreeNodes.{held_missing, is_held_by, is_open_held, fewer_free, released_nodes}
use Rattle.node_pool.proofs.Keeping.{given_same, same_journaled, same_leaves, halts_other}
use Rattle.node_pool.proofs.Releasing.{more_since}
use Rattle.node_pool.proofs.Standing.{after_given}
use Rattle.node_pool.proofs.pool.Pool.release.Goals as goal

pub insert_node-requires-clause-absent : goal.insert_node-requires-clause-absent
insert_node-requires-clause-absent g c =
    let old = c.args.self.now in
    held_missing old.state.state old.free.items c.args.node old.listed (is_held_by old.state.state c.args.worker c.args.node c.conditions_hold.ensures.sound c.requires)

pub insert_node-requires-clause-room : goal.insert_node-requires-clause-room
insert_node-requires-clause-room g c =
    let old = c.args.self.now in
    omega (arith, fewer_free old.state.state c.args.worker c.args.node c.conditions_hold.ensures.sound c.requires old.free.items old.listed, old.room, old.free.ok.0)

pub apply-requires-clause-legal : goal.apply-requires-clause-legal
apply-requires-clause-legal g c =
    let s = c.args.self.now.state.state in
    record {
      admitted = passing (is_open s c.args.node) NotOpen _ (is_open_held s c.args.worker c.args.node c.conditions_hold.ensures.sound c.requires) (passing (holds_node s c.args.worker c.args.node) NotYours Yes c.requires refl);
      stands = tt;
    }

pub invariant_of-self : goal.invariant_of-self
invariant_of-self g c =
    let old = c.args.self.now in
    let new = c.apply.new.self in
    let disk = old.journal.disk in
    let node = c.args.node in
    let ps = payloads_in (g.D.Disk.now disk) in
    let free = c.insert_node.new.free.items in
    let same = same_journaled old.state.state new.state old.state.history new.history (Some c.args.worker) (event.Release node) refl c.apply.ensures.state c.apply.ensures.history in
    record {
      listed = subst (λ (s : State). AreFreeNodes s free) (sym c.apply.ensures.state)
          (released_nodes old.state.state c.args.worker node c.conditions_hold.ensures.sound c.requires old.free.items free old.listed c.insert_node.ensures.rising c.insert_node.ensures.nodes);
      room = omega (arith, old.room, c.insert_node.ensures.capacity, ap (λ (s : State). length s.nodes) c.apply.ensures.state);
      few = old.few;
      stands = λ told. after_given ps old.state.history new.history old.halt old.halt same (given_same old.state.history new.history old.halt same) (old.stands told);
      upgraded = old.upgraded;
      crashes = λ told. same_leaves old.state.state new.state old.state.history new.history (Some c.args.worker) (event.Release node) refl c.apply.ensures.state c.apply.ensures.history old.journal.opened (g.D.Disk.past disk) (g.D.Disk.now disk) old.halt (old.crashes told);
      halts = halts_other old.faults old.budget (g.D.Disk.count disk) old.journal.fault old.state.state new.state old.halt (Some c.args.worker) (event.Release node) refl c.apply.ensures.state old.halts;
      released = λ halted. more_since _ _ _ (Some c.args.worker) node c.apply.ensures.history (old.released halted);
    }
