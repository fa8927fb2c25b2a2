use Rattle.std.proofs.Common.{IsErrOf, ℕ, ◌≡◌, ◌++◌, ◌∷◌, [], sym, subst, refl, true, false}
use Rattle.outside.specs.Images.{AtRest, LeavesOnly}
use Rattle.node_journal.specs.declared.fault.AppendFault.{AppendFault}
use Rattle.node_journal.specs.declared.fault.AppendFault.TheVariants.{Memory}
use Rattle.node_journal.specs.Appends.{IsWithOrWithout}
use Rattle.node_journal.specs.History.{ExtendsMoments, KeepsHistory}
use Rattle.node_journal.specs.Whole.{payloads_in}
use Rattle.node_journal.specs.Lemmas.Resting.{at_rest}
use Rattle.resume.specs.Crashes.{LeavesHistory}
use Rattle.resume.proofs.KeptHistories.{leaves, leaves_failed, sound_history}
use Rattle.resume.proofs.Recovering.{still_rests}
use Rattle.resume.proofs.opening.with_payload.Goals as goal

pub returns-in-Ok-clause-kept : goal.returns-in-Ok-clause-kept
returns-in-Ok-clause-kept g c told =
    let j = c.append-appended.new.self in
    sound_history _ _ _ _ _ c.in-Ok.ensures.sound.1
    (subst (λ (n : ℕ). KeepsHistory n (g.D.Disk.past j.disk) (g.D.Disk.now j.disk) (payloads_in (g.D.Disk.now j.disk)) j.fault) c.append-appended.ensures.opened (c.history_holds-2.ensures.kept told))

pub returns-in-Err-Disk-clause-kept_err : goal.returns-in-Err-Disk-clause-kept_err
returns-in-Err-Disk-clause-kept_err g c told =
    let j = c.append-appended.new.self in
    subst (λ d. LeavesHistory c.args.journal.opened (g.D.Disk.past d) (g.D.Disk.now d) true) (sym c.into_disk.ensures)
    (leaves_failed _ _ _
    (subst (λ (n : ℕ). KeepsHistory n (g.D.Disk.past j.disk) (g.D.Disk.now j.disk) (payloads_in (g.D.Disk.now j.disk)) j.fault) c.append-appended.ensures.opened (c.history_holds-2.ensures.kept told)).history)

pub returns-in-Err-Memory-clause-kept_err : goal.returns-in-Err-Memory-clause-kept_err
returns-in-Err-Memory-clause-kept_err g c told =
    let j = c.append-appended.new.self in
    let memory : c.in-Err-Memory.field-0 ≡ Memory = rw c.in-Err-Memory.is at c.in-Err-Memory.field-0-is in
    let failed = subst (λ (f : AppendFault). IsErrOf c.append-appended.result f) memory c.in-Err-Memory.is in
    subst (λ d. LeavesHistory c.args.journal.opened (g.D.Disk.past d) (g.D.Disk.now d) false) (sym c.into_disk-in-Err-Memory.ensures)
    (leaves _ _ _ _ _ refl (sound_history _ _ _ _ _ (c.append-appended.ensures.memory failed).1
    (subst (λ (n : ℕ). KeepsHistory n (g.D.Disk.past j.disk) (g.D.Disk.now j.disk) (payloads_in (g.D.Disk.now j.disk)) j.fault) c.append-appended.ensures.opened (c.history_holds-2.ensures.kept told))))

pub returns-in-Err-Disk-clause-any_moment_err : goal.returns-in-Err-Disk-clause-any_moment_err
returns-in-Err-Disk-clause-any_moment_err g c told =
    let past = g.D.Disk.past in
    let now = g.D.Disk.now in
    let old = c.args.journal.disk in
    subst (λ d. LeavesOnly (past old) (now old) (past d) (now d) (IsWithOrWithout (payloads_in (now old)) c.args.payload.now)) (sym c.into_disk.ensures) (c.append-appended.ensures.any_moment told c.requires.sound)

pub returns-in-Err-Memory-clause-any_moment_err : goal.returns-in-Err-Memory-clause-any_moment_err
returns-in-Err-Memory-clause-any_moment_err g c told =
    let past = g.D.Disk.past in
    let now = g.D.Disk.now in
    let old = c.args.journal.disk in
    subst (λ d. LeavesOnly (past old) (now old) (past d) (now d) (IsWithOrWithout (payloads_in (now old)) c.args.payload.now)) (sym c.into_disk-in-Err-Memory.ensures) (c.append-appended.ensures.any_moment told c.requires.sound)

pub returns-in-Err-Disk-clause-continued_err : goal.returns-in-Err-Disk-clause-continued_err
returns-in-Err-Disk-clause-continued_err g c told =
    let past = g.D.Disk.past in
    let now = g.D.Disk.now in
    let old = c.args.journal.disk in
    subst (λ d. ExtendsMoments (past old ++ now old ∷ []) (past d ++ now d ∷ [])) (sym c.into_disk.ensures) (c.append-appended.ensures.continued told)

pub returns-in-Err-Memory-clause-continued_err : goal.returns-in-Err-Memory-clause-continued_err
returns-in-Err-Memory-clause-continued_err g c told =
    let past = g.D.Disk.past in
    let now = g.D.Disk.now in
    let old = c.args.journal.disk in
    subst (λ d. ExtendsMoments (past old ++ now old ∷ []) (past d ++ now d ∷ [])) (sym c.into_disk-in-Err-Memory.ensures) (c.append-appended.ensures.continued told)

pub returns-in-Err-Memory-clause-rests_err : goal.returns-in-Err-Memory-clause-rests_err
returns-in-Err-Memory-clause-rests_err g c told other =
    let memory : c.in-Err-Memory.field-0 ≡ Memory = rw c.in-Err-Memory.is at c.in-Err-Memory.field-0-is in
    let failed = subst (λ (f : AppendFault). IsErrOf c.append-appended.result f) memory c.in-Err-Memory.is in
    subst (λ d. AtRest (g.D.Disk.now d)) (sym c.into_disk-in-Err-Memory.ensures)
    (still_rests _ _ _ _ (c.append-appended.ensures.memory_stands failed) (at_rest _ _ (c.history_holds.ensures.rests told c.requires.sound)))
