use Rattle.std.proofs.Common.{ℕ, List, ap, sym, ◌∙◌, arith}
use Rattle.outside.specs.Images.{resting}
use Rattle.node_journal.specs.Views.{payloads_of}
use Rattle.node_journal.specs.Frames.{file_of}
use Rattle.node_journal.proofs.Ends.{nil_of}
use Rattle.node_journal.proofs.Repairing.{renewed}
use Rattle.node_journal.proofs.repair.repair.Goals as goal

pub returns-in_err-renew-clause-any_moment : goal.returns-in_err-renew-clause-any_moment
returns-in_err-renew-clause-any_moment g c told =
    let scan = c.requires.scanned told in
    renewed (payloads_of c.args.scanned.now) scan.reads (omega (arith, scan.size, c.if-scanned-le9.true)) (c.renew.ensures.any_moment told)

pub returns-then-scanned-le9-clause-done : goal.returns-then-scanned-le9-clause-done
returns-then-scanned-le9-clause-done g c told =
    let scan = c.requires.scanned told in
    let none = nil_of (g.D.Disk.now c.args.disk.now).seen (payloads_of c.args.scanned.now) scan.reads (omega (arith, scan.size, c.if-scanned-le9.true)) in
    c.in_ok-renew.ensures.done told ∙ ap (λ (qs : List (List ℕ)). resting (file_of qs)) (sym none)

pub returns-then-scanned-le9-clause-any_moment : goal.returns-then-scanned-le9-clause-any_moment
returns-then-scanned-le9-clause-any_moment g c told =
    let scan = c.requires.scanned told in
    renewed (payloads_of c.args.scanned.now) scan.reads (omega (arith, scan.size, c.if-scanned-le9.true)) (c.renew.ensures.any_moment told)
