use Rattle.std.proofs.Common.{refl, arith, ◌≡◌, true, false, ap, sym, ◌∙◌, subst, length, List, Option, Some, ◌∷◌, [], ◌++◌}
use Rattle.problem.specs.Problem.{Problem}
use Rattle.node_tree.specs.declared.branch.Node.{Node}
use Rattle.node_pool.specs.Halting.{spends}
use Rattle.node_events.specs.declared.event.Event.{Event}
use Rattle.event_core.specs.Histories.{is_journaled, entries_by, AreLegalFrom}
use Rattle.std.proofs.lemmas.List.Elements.{recursion_from_All}
use Rattle.node_pool.proofs.Spelling.{AreJournaledEvents}
use Rattle.event_core.specs.Rooms.{Recorded, split_count}
use Rattle.node_pool.proofs.Budgets.{split_taken, within_budget}
use Rattle.outside.specs.Images.{LeavesOnly}
use Rattle.event_core.specs.Laws.{JournalsAreLegal}
use Rattle.node_journal.specs.Appends.{IsWithOrWithout}
use Rattle.node_journal.specs.History.{ExtendsMoments}
use Rattle.node_journal.specs.Whole.{payloads_in}
use Rattle.node_pool.specs.declared.halt.Halt.{Halt}
use Rattle.node_pool.specs.declared.halt.Halt.TheVariants as halt
use Rattle.node_pool.specs.Payloads.{events_given, group_payload}
use Rattle.node_pool.proofs.Next.{next_event}
use Rattle.node_pool.proofs.Crashes.{none_added}
use Rattle.node_pool.proofs.Keeping.{none_if, leaves_given, unfailed}
use Rattle.node_pool.specs.Releases.{history_at}
use Rattle.node_pool.proofs.Releasing.{none_since, history_now, history_kept}
use Rattle.node_pool.proofs.Standing.{after_given}
use Rattle.node_pool.proofs.pool.Pool.commit_all.Goals as goal

pub invariant_of-self : goal.invariant_of-self
invariant_of-self g c =
    let old = c.args.self.now in
    let s = old.state.state in
    let es = old.state.history in
    let e = c.in-Some.event in
    let disk = old.journal.disk in
    let none = none_if old.halt (sym c.is_some.ensures ∙ c.if-is_some.false) in
    let nodes : c.len.result ≡ length s.nodes = c.len.ensures ∙ ap (λ (ns : List Node). length ns) c.tree-tree.ensures.nodes in
    let over : spends old.budget (length s.nodes) c.args.events.items ≡ true = ap (λ k. spends old.budget k c.args.events.items) (sym nodes) ∙ ap (λ (l : List Event). spends old.budget c.len.result l) (sym c.deref.ensures.value) ∙ sym c.spends.ensures ∙ c.if-spends.true in
    let split = split_taken old.budget (length s.nodes) c.args.events.items c.pop.new.self.items c.pop.result e c.requires.alone over c.pop.ensures.items c.in-Some.is in
    let legal = subst (λ (l : List Event). AreLegalFrom s (entries_by (Some c.args.worker) l)) split.0 c.requires.legal in
    let journaled = subst (λ (l : List Event). AreJournaledEvents l) split.0 (recursion_from_All (λ (f : Event). is_journaled f ≡ true) c.args.events.items c.requires.journaled) in
    let given = ap (λ (h : Option Halt). events_given es h) (sym none) in
    record {
      listed = old.listed;
      room = old.room;
      few = old.few;
      stands = λ told. after_given (payloads_in (g.D.Disk.now disk)) es es old.halt (Some (halt.Budget e)) refl given (old.stands told);
      upgraded = old.upgraded;
      crashes = λ told. leaves_given old.journal.opened (g.D.Disk.past disk) (g.D.Disk.now disk) es es old.halt (Some (halt.Budget e)) refl given (old.crashes told);
      halts = record {
        sound = unfailed old.faults old.budget (g.D.Disk.count disk) old.journal.fault s old.halt none old.halts;
        next = next_event s.problem es s (subst (λ (p : Problem). JournalsAreLegal p) c.problem.ensures c.journals_are_legal.ensures) c.conditions_hold.ensures.legal c.conditions_hold.ensures.state c.args.worker e legal.0.admitted journaled.0;
        over = split.1;
      };
      released = λ halted. none_since _ _ (ap (λ (r : Recorded). r.history) c.of.ensures);
    }

pub returns-then-spends-clause-any_moment : goal.returns-then-spends-clause-any_moment
returns-then-spends-clause-any_moment g c told unhalted =
    let old = c.args.self.now in
    let disk = old.journal.disk in
    let sound = unfailed old.faults old.budget (g.D.Disk.count disk) old.journal.fault old.state.state old.halt unhalted old.halts in
    none_added old.journal.opened (g.D.Disk.past disk) (g.D.Disk.now disk) old.journal.fault (group_payload c.args.events.items) (old.journal.kept told) sound.sound (c.history_holds.ensures.held told sound.sound)

pub returns-in-Err-clause-any_moment : goal.returns-in-Err-clause-any_moment
returns-in-Err-clause-any_moment g c told unhalted =
    let old = c.args.self.now in
    let disk = old.journal.disk in
    let sound = unfailed old.faults old.budget (g.D.Disk.count disk) old.journal.fault old.state.state old.halt unhalted old.halts in
    let same = ap (λ j. j.disk) c.prepare.ensures.journal in
    subst (λ d. LeavesOnly (g.D.Disk.past disk) (g.D.Disk.now disk) (g.D.Disk.past d) (g.D.Disk.now d) (IsWithOrWithout (payloads_in (g.D.Disk.now disk)) (group_payload c.args.events.items))) (sym same)
    (none_added old.journal.opened (g.D.Disk.past disk) (g.D.Disk.now disk) old.journal.fault (group_payload c.args.events.items) (old.journal.kept told) sound.sound (c.history_holds.ensures.held told sound.sound))

pub returns-in-Ok-clause-continued : goal.returns-in-Ok-clause-continued
returns-in-Ok-clause-continued g c told =
    let past = g.D.Disk.past in
    let now = g.D.Disk.now in
    let disk = c.add.new.self.journal.disk in
    let same = ap (λ j. j.disk) c.prepare.ensures.journal in
    subst (λ d. ExtendsMoments (past d ++ now d ∷ []) (past disk ++ now disk ∷ [])) same (c.add.ensures.continued told)

pub prepare-requires-clause-numbers : goal.prepare-requires-clause-numbers
prepare-requires-clause-numbers g c =
    let old = c.args.self.now in
    let s = old.state.state in
    let nodes : c.len.result ≡ length s.nodes = c.len.ensures ∙ ap (λ (ns : List Node). length ns) c.tree-tree.ensures.nodes in
    let within : spends old.budget (length s.nodes) c.args.events.items ≡ false =
    ap (λ k. spends old.budget k c.args.events.items) (sym nodes) ∙ ap (λ (l : List Event). spends old.budget c.len.result l) (sym c.deref.ensures.value) ∙ sym c.spends.ensures ∙ c.if-spends.false
    in
    let few = within_budget old.budget (length s.nodes) c.args.events.items c.requires.alone within in
    omega (arith, few, old.few, c.conditions_hold-2.ensures.few, ap (λ (ns : List Node). length ns) c.tree-tree.ensures.nodes, ap (λ (l : List Event). split_count l) c.deref-2.ensures.value)

pub returns-then-is_some-clause-at_halt : goal.returns-then-is_some-clause-at_halt
returns-then-is_some-clause-at_halt g c = sym (history_kept c.args.self.now.halt c.args.self.now.halt _ _ refl)

pub returns-then-spends-clause-at_halt : goal.returns-then-spends-clause-at_halt
returns-then-spends-clause-at_halt g c = ap (λ (r : Recorded). r.history) c.of.ensures ∙ sym (history_now c.args.self.now.halt _ _ _ (none_if c.args.self.now.halt (sym c.is_some.ensures ∙ c.if-is_some.false)))

pub returns-in-Err-clause-at_halt : goal.returns-in-Err-clause-at_halt
returns-in-Err-clause-at_halt g c = ap (λ a. a.value.history) c.prepare.ensures.at_halt ∙ sym (history_kept c.args.self.now.halt c.prepare.new.self.halt _ _ c.prepare.ensures.halt)

pub returns-in-Ok-clause-at_halt : goal.returns-in-Ok-clause-at_halt
returns-in-Ok-clause-at_halt g c =
    let old = c.args.self.now in
    let ready = c.prepare.new.self in
    let new = c.add.new.self in
    c.add.ensures.at_halt ∙ ap (λ h. history_at h new.halt ready.at_halt.value.history ready.state.history) c.prepare.ensures.halt ∙ ap (λ a. history_at old.halt new.halt a.value.history ready.state.history) c.prepare.ensures.at_halt
    ∙ ap (λ r. history_at old.halt new.halt old.at_halt.value.history r) c.prepare.ensures.stays.history
