use Rattle.std.proofs.Common.{rules, ap, refl, sym, ◌∙◌, subst, arith, ◌≡◌, ◌+◌, true, List, ℕ, length, Option, Some, None, Ok, ◌∷◌, [], ◌++◌}
use Rattle.std.proofs.lemmas.List.Elements.{recursion_from_All}
use Rattle.node_tree.specs.declared.branch.Node.{Node}
use Rattle.node_events.specs.declared.event.Event.{Event}
use Rattle.event_core.specs.declared.entry.Entry.{Entry}
use Rattle.event_core.specs.States.{State}
use Rattle.event_core.specs.Histories.{is_journaled}
use Rattle.node_journal.specs.History.{KeepsHistory, EachFrom, IsPrefixOf}
use Rattle.node_journal.specs.Records.{records}
use Rattle.node_journal.specs.Whole.{payloads_in}
use Rattle.event_codec.specs.declared.enc.Enc.TheVariants.{Two}
use Rattle.event_codec.specs.Groups.{group_of}
use Rattle.outside.specs.Faults.{Rose}
use Rattle.problem.specs.Problem.{Problem}
use Rattle.event_core.specs.Laws.{unheld, JournalsAreLegal}
use Rattle.outside.specs.declared.moment.Moment.{Moment}
use Rattle.node_pool.specs.declared.halt.Halt.{Halt}
use Rattle.node_pool.specs.declared.halt.Halt.TheVariants as halt
use Rattle.node_pool.specs.Halting.{IsDiskHalt}
use Rattle.event_core.specs.Rooms.{Recorded, split_count}
use Rattle.node_pool.specs.Free.{children_of_all}
use Rattle.node_pool.specs.Payloads.{IsJournalOf, IsJournalAfter, LeavesBeginnings, events_given, is_upgraded, group_payload}
use Rattle.node_pool.proofs.Budgets.{within_budget}
use Rattle.node_pool.proofs.FreeNodes.{listed_below, added_listed, nodes_added}
use Rattle.node_pool.proofs.RisingLists.{fewer, missing}
use Rattle.node_pool.proofs.Spelling.{AreJournaledEvents, journal_push, upgraded_more}
use Rattle.node_pool.proofs.Standing.{journal_sound, after_sound}
use Rattle.node_pool.proofs.Next.{next_events}
use Rattle.node_pool.proofs.Crashes.{leaves_sound, leaves_failed, leaves_stands, model_kept, stands_failed, upgraded_kept}
use Rattle.node_pool.proofs.Keeping.{unfailed, halts_none}
use Rattle.node_pool.proofs.Releasing.{unhalted_since, none_since, history_now, history_kept}
use Rattle.node_pool.proofs.pool.Pool.add.Goals as goal

pub add_children-requires-clause-room : goal.add_children-requires-clause-room
add_children-requires-clause-room g c =
    let old = c.args.self.now in
    let s = old.state.state in
    let below = listed_below s old.free.items c.conditions_hold.ensures.sound.lengths old.listed in
    let less = fewer old.free.items (length s.nodes) (length s.nodes + 1) old.listed.rising (λ k d l. let b = below k d l in omega (arith, b)) (missing old.free.items (length s.nodes) below) (omega arith) in
    omega (arith, less, c.requires.room, old.free.ok.0, ap (λ (es : List Event). split_count es) c.deref.ensures.value)

pub invariant_of-self : goal.invariant_of-self
invariant_of-self g c =
    let old = c.args.self.now in
    let new = c.apply_all.new.self in
    let s = old.state.state in
    let es = c.args.events.items in
    let w = c.args.worker in
    let before = old.state.history in
    let after = new.history in
    let journal = c.append.new.self in
    let journaled : AreJournaledEvents es = recursion_from_All (λ (e : Event). is_journaled e ≡ true) es c.requires.journaled in
    let sound = unfailed old.faults old.budget (g.D.Disk.count old.journal.disk) old.journal.fault s old.halt c.requires.sound old.halts in
    let ps = payloads_in (g.D.Disk.now old.journal.disk) in
    let qs = payloads_in (g.D.Disk.now journal.disk) in
    let stood = λ (told : g.D.Disk.tells ≡ true). journal_sound old.faults old.budget (g.D.Disk.count old.journal.disk) old.journal.fault s before sound.sound ps old.halt old.halts (old.stands told) in
    let stands = λ (told : g.D.Disk.tells ≡ true). subst (λ (l : List Entry). IsJournalOf qs l) (sym c.apply_all.ensures.history)
    (journal_push ps qs (group_payload es) before (Some w) es journaled (old.upgraded told) (stood told) c.requires.read (c.in-Ok.ensures.added told ∙ ap (λ (p : List ℕ). ps ++ p ∷ []) c.requires.spelled)) in
    record {
      listed = added_listed s.problem before s new.state w es old.free.items c.add_children.new.free.items c.len-number.result c.conditions_hold.ensures.state c.conditions_hold.ensures.legal c.requires.legal journaled old.listed
          c.apply_all.ensures.state (c.len-number.ensures ∙ ap (λ (ns : List Node). length ns) c.tree-tree.ensures.nodes)
          (c.add_children.ensures.items ∙ ap (λ (l : List Event). old.free.items ++ children_of_all l c.len-number.result) c.deref.ensures.value);
      room = omega (arith, c.requires.room, c.add_children.ensures.capacity, ap (λ (t : State). length t.nodes) c.apply_all.ensures.state, nodes_added s (Some w) es);
      few = old.few;
      stands = λ told. after_sound qs after old.halt (stands told);
      upgraded = λ told.
          ap (λ (l : List (List ℕ)). is_upgraded l) (c.in-Ok.ensures.added told ∙ ap (λ (p : List ℕ). ps ++ p ∷ []) c.requires.spelled) ∙ upgraded_more ps (group_payload es) (old.upgraded told);
      crashes = λ told. leaves_sound journal.opened (g.D.Disk.past journal.disk) (g.D.Disk.now journal.disk) after old.halt
          (subst (λ (f : Option ℕ). KeepsHistory journal.opened (g.D.Disk.past journal.disk) (g.D.Disk.now journal.disk) qs f) c.in-Ok.ensures.sound.1 (journal.kept told)) (stands told)
          (ap (λ (h : Option Halt). events_given after h) c.requires.sound);
      halts = halts_none old.faults old.budget (g.D.Disk.count journal.disk) journal.fault new.state old.halt c.requires.sound
          (record { sound = c.in-Ok.ensures.sound.1; unchanged = c.in-Ok.ensures.cause sound.sound ∙ sound.unchanged });
      released = unhalted_since old.halt _ _ c.requires.sound;
    }

pub invariant_of-self-in-Err-Memory : goal.invariant_of-self-in-Err-Memory
invariant_of-self-in-Err-Memory g c =
    let old = c.args.self.now in
    let s = old.state.state in
    let es = old.state.history in
    let journal = c.append.new.self in
    let past = g.D.Disk.past in
    let now = g.D.Disk.now in
    let before = unfailed old.faults old.budget (g.D.Disk.count old.journal.disk) old.journal.fault s old.halt c.requires.sound old.halts in
    let both = c.in-Err-Memory.ensures.memory (search rules) in
    let none = c.in-Err-Memory.ensures.memory_stands (search rules) in
    let cause = rw c.in-Err-Memory.field-0-is at (c.in-Err-Memory.ensures.cause before.sound) in
    record {
      listed = old.listed;
      room = old.room;
      few = old.few;
      stands = λ told. subst (λ (m : Moment). IsJournalAfter (payloads_in m) es old.halt) (sym none.same) (old.stands told);
      upgraded = λ told. subst (λ (m : Moment). is_upgraded (payloads_in m) ≡ true) (sym none.same) (old.upgraded told);
      crashes = λ told. subst (λ n. LeavesBeginnings n (past journal.disk) (now journal.disk) es old.halt) (sym c.in-Err-Memory.ensures.opened)
          (leaves_stands old.journal.opened (past old.journal.disk) (now old.journal.disk) (past journal.disk) (now journal.disk) es old.halt none (old.crashes told));
      halts = halts_none old.faults old.budget (g.D.Disk.count journal.disk) journal.fault s old.halt c.requires.sound
          (record { sound = both.1; unchanged = cause ∙ before.unchanged });
      released = unhalted_since old.halt _ _ c.requires.sound;
    }

pub returns-in-Err-Disk-clause-model : goal.returns-in-Err-Disk-clause-model
returns-in-Err-Disk-clause-model g c told =
    let old = c.args.self.now in
    let journal = c.append.new.self in
    let past = g.D.Disk.past in
    let now = g.D.Disk.now in
    let before = unfailed old.faults old.budget (g.D.Disk.count old.journal.disk) old.journal.fault old.state.state old.halt c.requires.sound old.halts in
    let stood = journal_sound old.faults old.budget (g.D.Disk.count old.journal.disk) old.journal.fault old.state.state old.state.history before.sound (payloads_in (now old.journal.disk)) old.halt old.halts (old.stands told) in
    model_kept (past old.journal.disk) (now old.journal.disk) (past journal.disk) (now journal.disk) old.state.history c.args.payload.now stood (c.append.ensures.any_moment told before.sound)
    (g.met.D.Disk.seen_is_image journal.disk told)

pub invariant_of-self-in-Err-Disk : goal.invariant_of-self-in-Err-Disk
invariant_of-self-in-Err-Disk g c =
    let old = c.args.self.now in
    let s = old.state.state in
    let history = old.state.history in
    let es = c.args.events.items in
    let journal = c.append.new.self in
    let past = g.D.Disk.past in
    let now = g.D.Disk.now in
    let count = g.D.Disk.count in
    let n = c.faults-faults.result in
    let journaled : AreJournaledEvents es = recursion_from_All (λ (e : Event). is_journaled e ≡ true) es c.requires.journaled in
    let before = unfailed old.faults old.budget (count old.journal.disk) old.journal.fault s old.halt c.requires.sound old.halts in
    let stood = λ (told : g.D.Disk.tells ≡ true). journal_sound old.faults old.budget (count old.journal.disk) old.journal.fault s history before.sound (payloads_in (now old.journal.disk)) old.halt old.halts (old.stands told) in
    let failed = c.in-Err-Disk.ensures.fails before.sound (search rules) in
    let counted : count journal.disk ≡ n = ap (λ d. count d) (sym c.disk.ensures) ∙ sym c.faults-faults.ensures in
    let cause = rw c.in-Err-Disk.field-0-is at (c.in-Err-Disk.ensures.cause before.sound) in
    let payload : group_of Two c.args.payload.now ≡ Ok es = ap (group_of Two) c.requires.spelled ∙ c.requires.read in
    let halted : IsDiskHalt old.faults old.budget (count journal.disk) journal.fault s n es = record {
      failed = failed ∙ ap Some counted;
      counted = counted;
      rose = subst (λ k. Rose k n) before.unchanged (subst (λ k. Rose (count old.journal.disk) k) counted cause.1);
      next = next_events s.problem history s (subst (λ (p : Problem). JournalsAreLegal p) c.problem.ensures c.journals_are_legal.ensures) c.conditions_hold.ensures.legal c.conditions_hold.ensures.state c.args.worker es c.requires.legal journaled;
      read = c.requires.read;
      few = (let within = within_budget old.budget (length s.nodes) es c.requires.alone c.requires.within in omega (arith, within, nodes_added (unheld s) None es));
    } in
    record {
      listed = old.listed;
      room = old.room;
      few = old.few;
      stands = λ told. subst (λ (l : List Event). IsJournalAfter (payloads_in (now journal.disk)) history (Some (halt.Disk n l))) (sym c.of-events.ensures)
          (stands_failed (past old.journal.disk) (now old.journal.disk) (past journal.disk) (now journal.disk) history c.args.payload.now (stood told) n es (old.upgraded told) payload (c.append.ensures.any_moment told before.sound)
          (g.met.D.Disk.seen_is_image journal.disk told));
      upgraded = λ told. upgraded_kept (past old.journal.disk) (now old.journal.disk) (past journal.disk) (now journal.disk) c.args.payload.now (old.upgraded told) (c.append.ensures.any_moment told before.sound)
          (g.met.D.Disk.seen_is_image journal.disk told);
      crashes = λ told. subst (λ (l : List Event). LeavesBeginnings journal.opened (past journal.disk) (now journal.disk) history (Some (halt.Disk n l))) (sym c.of-events.ensures)
          (leaves_failed journal.opened (now old.journal.disk) (past journal.disk) (now journal.disk) history n es c.args.payload.now (old.upgraded told) payload (stood told)
          (model_kept (past old.journal.disk) (now old.journal.disk) (past journal.disk) (now journal.disk) history c.args.payload.now (stood told) (c.append.ensures.any_moment told before.sound) (g.met.D.Disk.seen_is_image journal.disk told))
          (subst (λ k. EachFrom k (past journal.disk ++ now journal.disk ∷ []) (λ b. IsPrefixOf (payloads_in (now old.journal.disk) ++ c.args.payload.now ∷ []) (records b))) (sym c.in-Err-Disk.ensures.opened) (c.in-Err-Disk.ensures.since told before.sound)));
      halts = subst (λ (l : List Event). IsDiskHalt old.faults old.budget (count journal.disk) journal.fault s n l) (sym c.of-events.ensures) halted;
      released = λ done. none_since _ _ (ap (λ (r : Recorded). r.history) c.of.ensures);
    }

pub returns-in-Ok-clause-at_halt : goal.returns-in-Ok-clause-at_halt
returns-in-Ok-clause-at_halt g c = sym (history_kept c.args.self.now.halt c.args.self.now.halt _ _ refl)

pub returns-in-Err-Memory-clause-at_halt : goal.returns-in-Err-Memory-clause-at_halt
returns-in-Err-Memory-clause-at_halt g c = sym (history_kept c.args.self.now.halt c.args.self.now.halt _ _ refl)

pub returns-in-Err-Disk-clause-at_halt : goal.returns-in-Err-Disk-clause-at_halt
returns-in-Err-Disk-clause-at_halt g c = ap (λ (r : Recorded). r.history) c.of.ensures ∙ sym (history_now c.args.self.now.halt _ _ _ c.requires.sound)
