use Rattle.std.proofs.Common.{List, ℕ, None, ap, sym, ◌∙◌, subst, arith, length}
use Rattle.node_journal.specs.History.{KeepsHistory}
use Rattle.node_journal.specs.Views.{payloads_of}
use Rattle.node_journal.proofs.Added.{payloads_in-file, whole_file}
use Rattle.node_journal.proofs.Ends.{reads_records}
use Rattle.node_journal.proofs.Framing.{framed_longer}
use Rattle.node_journal.proofs.journal.Journal.recover.Goals as goal

pub invariant_of-result-clause-fewer : goal.invariant_of-result-clause-fewer
invariant_of-result-clause-fewer g c = omega (arith, c.count.ensures, c.end.ensures.place, framed_longer (payloads_of c.args.scanned))

pub invariant_of-result-clause-whole : goal.invariant_of-result-clause-whole
invariant_of-result-clause-whole g c told sound =
    whole_file (g.D.Disk.now c.recover_disk.new.disk) (payloads_of c.args.scanned) c.end.result c.args.scanned.small (c.in-Ok.ensures.done told) c.end.ensures.place

pub invariant_of-result-clause-counts : goal.invariant_of-result-clause-counts
invariant_of-result-clause-counts g c told sound =
    c.count.ensures ∙ ap (λ (qs : List (List ℕ)). length qs) (sym (payloads_in-file (g.D.Disk.now c.recover_disk.new.disk) (payloads_of c.args.scanned) c.args.scanned.small (c.in-Ok.ensures.done told)))

pub invariant_of-result-clause-kept : goal.invariant_of-result-clause-kept
invariant_of-result-clause-kept g c told =
    let disk = c.recover_disk.new.disk in
    subst (λ (qs : List (List ℕ)). KeepsHistory c.in-Ok.opened (g.D.Disk.past disk) (g.D.Disk.now disk) qs None)
    (sym (payloads_in-file (g.D.Disk.now disk) (payloads_of c.args.scanned) c.args.scanned.small (c.in-Ok.ensures.done told)))
    (c.in-Ok.ensures.kept told)

pub returns-in-Ok-clause-read : goal.returns-in-Ok-clause-read
returns-in-Ok-clause-read g c told = reads_records (g.D.Disk.now c.args.disk).seen (payloads_of c.args.scanned) c.args.scanned.small (c.requires told).reads

pub returns-clause-read : goal.returns-clause-read
returns-clause-read g c told = reads_records (g.D.Disk.now c.args.disk).seen (payloads_of c.args.scanned) c.args.scanned.small (c.requires told).reads

pub returns-in-Ok-clause-holds : goal.returns-in-Ok-clause-holds
returns-in-Ok-clause-holds g c told = payloads_in-file (g.D.Disk.now c.recover_disk.new.disk) (payloads_of c.args.scanned) c.args.scanned.small (c.in-Ok.ensures.done told)
