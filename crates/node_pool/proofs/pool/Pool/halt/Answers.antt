use Rattle.std.proofs.Common.{refl, ap, sym, ◌∙◌, Option, Some}
use Rattle.event_core.specs.Rooms.{Recorded}
use Rattle.node_journal.specs.Whole.{payloads_in}
use Rattle.node_pool.specs.declared.halt.Halt.{Halt}
use Rattle.node_pool.specs.declared.halt.Halt.TheVariants as halt
use Rattle.node_pool.specs.Payloads.{events_given}
use Rattle.node_pool.proofs.Keeping.{none_if, leaves_given, unfailed}
use Rattle.node_pool.proofs.Releasing.{none_since, history_now, history_kept}
use Rattle.node_pool.proofs.Standing.{after_given}
use Rattle.node_pool.proofs.pool.Pool.halt.Goals as goal

pub invariant_of-self : goal.invariant_of-self
invariant_of-self g c =
    let old = c.args.self.now in
    let disk = old.journal.disk in
    let es = old.state.history in
    let none = none_if old.halt (sym c.is_some.ensures ∙ c.if-is_some.false) in
    let given = ap (λ (h : Option Halt). events_given es h) (sym none) in
    record {
      listed = old.listed;
      room = old.room;
      few = old.few;
      stands = λ told. after_given (payloads_in (g.D.Disk.now disk)) es es old.halt (Some halt.Memory) refl given (old.stands told);
      upgraded = old.upgraded;
      crashes = λ told. leaves_given old.journal.opened (g.D.Disk.past disk) (g.D.Disk.now disk) es es old.halt (Some halt.Memory) refl given (old.crashes told);
      halts = unfailed old.faults old.budget (g.D.Disk.count disk) old.journal.fault old.state.state old.halt none old.halts;
      released = λ halted. none_since _ _ (ap (λ (r : Recorded). r.history) c.of.ensures);
    }

pub returns-then-is_some-clause-at_halt : goal.returns-then-is_some-clause-at_halt
returns-then-is_some-clause-at_halt g c = sym (history_kept c.args.self.now.halt c.args.self.now.halt _ _ refl)

pub returns-clause-at_halt : goal.returns-clause-at_halt
returns-clause-at_halt g c = ap (λ (r : Recorded). r.history) c.of.ensures ∙ sym (history_now c.args.self.now.halt _ _ _ (none_if c.args.self.now.halt (sym c.is_some.ensures ∙ c.if-is_some.false)))
