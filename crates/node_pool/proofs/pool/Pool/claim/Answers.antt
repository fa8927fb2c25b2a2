use Rattle.std.proofs.Common.{ap, refl, sym, ◌∙◌, arith, length, Some}
use Rattle.node_events.specs.declared.event.Event.TheVariants as event
use Rattle.event_core.specs.States.{State}
use Rattle.node_journal.specs.Whole.{payloads_in}
use Rattle.node_pool.specs.declared.answers.Claim.TheVariants as answer
use Rattle.node_pool.proofs.FreeNodes.{claimed_greatest}
use Rattle.node_pool.proofs.Keeping.{claim_open, last_taken, claimed_listed, given_same, same_journaled, same_leaves, halts_other, none_if}
use Rattle.node_pool.proofs.Releasing.{unhalted_since}
use Rattle.node_pool.proofs.Standing.{after_given}
use Rattle.node_pool.proofs.pool.Pool.claim.Goals as goal

pub invariant_of-self-2 : goal.invariant_of-self-2
invariant_of-self-2 g c =
    let old = c.args.self.now in
    let new = c.apply.new.self in
    let disk = old.journal.disk in
    let node = c.in-Some.node in
    let ps = payloads_in (g.D.Disk.now disk) in
    let same = same_journaled old.state.state new.state old.state.history new.history (Some c.args.worker) (event.Claim node) refl c.apply.ensures.state c.apply.ensures.history in
    record {
      listed = claimed_listed old.state.state new.state c.args.worker node c.pop.new.self.items c.apply.ensures.state
          (last_taken old.state.state old.free.items c.pop.new.self.items c.pop.result node c.pop.ensures.items c.in-Some.is old.listed);
      room = omega (arith, old.room, c.pop.ensures.capacity, ap (λ (s : State). length s.nodes) c.apply.ensures.state);
      few = old.few;
      stands = λ told. after_given ps old.state.history new.history old.halt old.halt same (given_same old.state.history new.history old.halt same) (old.stands told);
      upgraded = old.upgraded;
      crashes = λ told. same_leaves old.state.state new.state old.state.history new.history (Some c.args.worker) (event.Claim node) refl c.apply.ensures.state c.apply.ensures.history old.journal.opened (g.D.Disk.past disk) (g.D.Disk.now disk) old.halt (old.crashes told);
      halts = halts_other old.faults old.budget (g.D.Disk.count disk) old.journal.fault old.state.state new.state old.halt (Some c.args.worker) (event.Claim node) refl c.apply.ensures.state old.halts;
      released = unhalted_since old.halt _ _ (none_if old.halt (sym c.is_some.ensures ∙ c.if-is_some.false));
    }

pub returns-clause-answer : goal.returns-clause-answer
returns-clause-answer g c =
    let old = c.args.self.now in
    let node = c.in-Some.node in
    claim_open old.halt old.state.state (answer.Node node) (sym c.is_some.ensures ∙ c.if-is_some.false)
    (claimed_greatest old.state.state c.args.worker node c.pop.new.self.items (last_taken old.state.state old.free.items c.pop.new.self.items c.pop.result node c.pop.ensures.items c.in-Some.is old.listed))
