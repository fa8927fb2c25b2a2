use Rattle.std.proofs.Common.{rules, refl, ◌≡◌, None, subst}
use Rattle.node_journal.specs.Appends.{IsWithOrWithout}
use Rattle.node_journal.specs.Frames.{file_of}
use Rattle.node_journal.specs.History.{KeepsHistory}
use Rattle.node_journal.specs.Whole.{payloads_in}
use Rattle.node_journal.proofs.Added.{added_in, added_rests, added_whole, added_count}
use Rattle.node_journal.specs.Lemmas.Histories.{continued, continued_stands}
use Rattle.node_journal.proofs.Keeping.{since, since_none, kept_added, kept_failed}
use Rattle.node_journal.proofs.journal.Journal.append.Goals as goal

pub invariant_of-self-clause-whole : goal.invariant_of-self-clause-whole
invariant_of-self-clause-whole g c told fine =
    let old = c.args.self.now in
    let sound : old.fault ≡ None = search rules in
    added_whole c.args.payload.now (old.whole told sound) c.requires.small (c.in-Ok.ensures.done told) c.in-Ok.ensures.end

pub invariant_of-self-clause-counts : goal.invariant_of-self-clause-counts
invariant_of-self-clause-counts g c told fine =
    let old = c.args.self.now in
    let sound : old.fault ≡ None = search rules in
    added_count c.args.payload.now (old.whole told sound) c.requires.small (c.in-Ok.ensures.done told) (old.counts told sound) refl

pub invariant_of-self-clause-kept : goal.invariant_of-self-clause-kept
invariant_of-self-clause-kept g c told =
    let old = c.args.self.now in
    let now = g.D.Disk.now in
    let past = g.D.Disk.past in
    let sound : old.fault ≡ None = search rules in
    let whole = old.whole told sound in
    let kept = subst (λ f. KeepsHistory old.opened (past old.disk) (now old.disk) (payloads_in (now old.disk)) f) sound (old.kept told) in
    kept_added old.opened (past old.disk) (now old.disk) (file_of (payloads_in (now old.disk))) (payloads_in (now old.disk)) c.args.payload.now whole.small refl whole.rests kept
    (past c.write_payload.new.disk) (now c.write_payload.new.disk) (c.write_payload.ensures.any_moment told) (c.write_payload.ensures.before told) (c.write_payload.ensures.remains told) (g.met.D.Disk.seen_is_image c.write_payload.new.disk told) (payloads_in (now c.write_payload.new.disk)) old.fault (added_in c.args.payload.now whole c.requires.small (c.in-Ok.ensures.done told))

pub invariant_of-self-in-Err-Disk-clause-kept : goal.invariant_of-self-in-Err-Disk-clause-kept
invariant_of-self-in-Err-Disk-clause-kept g c told =
    let old = c.args.self.now in
    let now = g.D.Disk.now in
    let past = g.D.Disk.past in
    let sound : old.fault ≡ None = search rules in
    let whole = old.whole told sound in
    let kept = subst (λ f. KeepsHistory old.opened (past old.disk) (now old.disk) (payloads_in (now old.disk)) f) sound (old.kept told) in
    kept_failed old.opened (past old.disk) (now old.disk) (file_of (payloads_in (now old.disk))) (payloads_in (now old.disk)) c.args.payload.now whole.small refl whole.rests kept
    (past c.write_payload.new.disk) (now c.write_payload.new.disk) (c.write_payload.ensures.any_moment told) (c.write_payload.ensures.before told) (c.write_payload.ensures.remains told) (g.met.D.Disk.seen_is_image c.write_payload.new.disk told) (payloads_in (now c.write_payload.new.disk)) _

pub returns-in-Ok-clause-added : goal.returns-in-Ok-clause-added
returns-in-Ok-clause-added g c told =
    let old = c.args.self.now in
    let sound : old.fault ≡ None = search rules in
    added_in c.args.payload.now (old.whole told sound) c.requires.small (c.in-Ok.ensures.done told)

pub returns-in-Ok-clause-acknowledged : goal.returns-in-Ok-clause-acknowledged
returns-in-Ok-clause-acknowledged g c told =
    let old = c.args.self.now in
    let sound : old.fault ≡ None = search rules in
    added_rests c.args.payload.now (old.whole told sound) c.requires.small (c.in-Ok.ensures.done told)

pub returns-in-Ok-clause-since : goal.returns-in-Ok-clause-since
returns-in-Ok-clause-since g c told sound =
    let old = c.args.self.now in
    let now = g.D.Disk.now in
    let past = g.D.Disk.past in
    let whole = old.whole told sound in
    let kept = subst (λ f. KeepsHistory old.opened (past old.disk) (now old.disk) (payloads_in (now old.disk)) f) sound (old.kept told) in
    since old.opened (past old.disk) (now old.disk) (file_of (payloads_in (now old.disk))) (payloads_in (now old.disk)) c.args.payload.now whole.small refl whole.rests kept
    (past c.write_payload.new.disk) (now c.write_payload.new.disk) (c.write_payload.ensures.any_moment told) (c.write_payload.ensures.before told)

pub returns-in-Err-Disk-clause-since : goal.returns-in-Err-Disk-clause-since
returns-in-Err-Disk-clause-since g c told sound =
    let old = c.args.self.now in
    let now = g.D.Disk.now in
    let past = g.D.Disk.past in
    let whole = old.whole told sound in
    let kept = subst (λ f. KeepsHistory old.opened (past old.disk) (now old.disk) (payloads_in (now old.disk)) f) sound (old.kept told) in
    since old.opened (past old.disk) (now old.disk) (file_of (payloads_in (now old.disk))) (payloads_in (now old.disk)) c.args.payload.now whole.small refl whole.rests kept
    (past c.write_payload.new.disk) (now c.write_payload.new.disk) (c.write_payload.ensures.any_moment told) (c.write_payload.ensures.before told)

pub returns-in-Err-Memory-clause-since : goal.returns-in-Err-Memory-clause-since
returns-in-Err-Memory-clause-since g c told sound =
    let old = c.args.self.now in
    let now = g.D.Disk.now in
    let past = g.D.Disk.past in
    let whole = old.whole told sound in
    let kept = subst (λ f. KeepsHistory old.opened (past old.disk) (now old.disk) (payloads_in (now old.disk)) f) sound (old.kept told) in
    since_none old.opened (past old.disk) (now old.disk) (file_of (payloads_in (now old.disk))) (payloads_in (now old.disk)) c.args.payload.now whole.small refl whole.rests kept
    (past c.write_payload.new.disk) (now c.write_payload.new.disk) (c.in-Err-Memory.ensures.memory (search rules))

pub returns-in-Ok-clause-continued : goal.returns-in-Ok-clause-continued
returns-in-Ok-clause-continued g c told =
    let old = c.args.self.now in
    let now = g.D.Disk.now in
    let past = g.D.Disk.past in
    continued (past old.disk) (now old.disk) (past c.write_payload.new.disk) (now c.write_payload.new.disk) (IsWithOrWithout (payloads_in (now old.disk)) c.args.payload.now) (c.write_payload.ensures.any_moment told)

pub returns-in-Err-Disk-clause-continued : goal.returns-in-Err-Disk-clause-continued
returns-in-Err-Disk-clause-continued g c told =
    let old = c.args.self.now in
    let now = g.D.Disk.now in
    let past = g.D.Disk.past in
    continued (past old.disk) (now old.disk) (past c.write_payload.new.disk) (now c.write_payload.new.disk) (IsWithOrWithout (payloads_in (now old.disk)) c.args.payload.now) (c.write_payload.ensures.any_moment told)

pub returns-in-Err-Memory-clause-continued : goal.returns-in-Err-Memory-clause-continued
returns-in-Err-Memory-clause-continued g c told =
    let old = c.args.self.now in
    let now = g.D.Disk.now in
    let past = g.D.Disk.past in
    continued_stands (past old.disk) (now old.disk) (past c.write_payload.new.disk) (now c.write_payload.new.disk) (c.in-Err-Memory.ensures.memory (search rules))
