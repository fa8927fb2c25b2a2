use Rattle.std.proofs.Common.{◌≡◌, ℕ, ◌+◌, take, ap, subst, sym, ◌∙◌, arith}
use Rattle.outside.specs.Lemmas.Passing.{started, weaker}
use Rattle.node_journal.specs.Gate.{IsBefore}
use Rattle.node_journal.specs.Records.{records, Intact}
use Rattle.node_journal.specs.Index.{EndsAt}
use Rattle.node_journal.specs.History.{Anything}
use Rattle.node_journal.specs.Views.{payloads_of}
use Rattle.node_journal.specs.Frames.{end_of}
use Rattle.node_journal.proofs.Ends.{cut_records, end_records}
use Rattle.node_journal.specs.Lemmas.Histories.{some_none}
use Rattle.node_journal.proofs.Repairing.{file_rests}
use Rattle.node_journal.proofs.repair.trim.Goals as goal

pub returns-then-end-scanned-clause-any_moment : goal.returns-then-end-scanned-clause-any_moment
returns-then-end-scanned-clause-any_moment g c told =
    let n = g.D.Disk.now c.args.disk.now in
    let ps = payloads_of c.args.scanned.now in
    let ends = subst (λ (e : ℕ). EndsAt n.seen ps e) (sym c.end-end.ensures.place) (c.requires.ends told) in
    weaker (g.D.Disk.past c.args.disk.now) n (g.D.Disk.past c.cut_behind.new.disk) (g.D.Disk.now c.cut_behind.new.disk) (IsBefore (take (c.end-end.result + 1) n.seen)) (λ f. records f ≡ Intact ps)
    (cut_records ps n.seen c.end-end.result c.args.scanned.now.small ends (omega (arith, c.if-end-scanned.true, c.requires.sized told)))
    (c.cut_behind.ensures.any_moment told)

pub returns-clause-any_moment : goal.returns-clause-any_moment
returns-clause-any_moment g c told =
    let n = g.D.Disk.now c.args.disk.now in
    let ps = payloads_of c.args.scanned.now in
    started (g.D.Disk.past c.args.disk.now) n (λ f. records f ≡ Intact ps)
    (λ f is. ap records (file_rests n (c.requires.rest told) f is) ∙ end_records ps n.seen (end_of ps) c.args.scanned.now.small (c.requires.ends told))

pub returns-clause-offers : goal.returns-clause-offers
returns-clause-offers g c told = some_none (g.D.Disk.past c.args.disk.now) Anything
