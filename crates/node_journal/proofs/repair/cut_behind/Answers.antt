use Rattle.node_journal.proofs.Repairing.{first_fails, second_fails, both_go, one_may_fail, two_may_fail, two_may_go, cut_step}
use Rattle.node_journal.proofs.repair.cut_behind.Goals as goal

pub returns-in_err-cut-clause-any_moment : goal.returns-in_err-cut-clause-any_moment
returns-in_err-cut-clause-any_moment g c told = first_fails (cut_step (g.D.Disk.now c.args.disk.now) (c.requires.rest told) c.args.end (c.requires.within told)) (c.in_err-cut.ensures.failed told)

pub returns-in_err-sync_cut-clause-any_moment : goal.returns-in_err-sync_cut-clause-any_moment
returns-in_err-sync_cut-clause-any_moment g c told = second_fails (cut_step (g.D.Disk.now c.args.disk.now) (c.requires.rest told) c.args.end (c.requires.within told)) (c.in_ok-cut.ensures.done told) (c.in_err-sync_cut.ensures.failed told)

pub returns-clause-any_moment : goal.returns-clause-any_moment
returns-clause-any_moment g c told = both_go (cut_step (g.D.Disk.now c.args.disk.now) (c.requires.rest told) c.args.end (c.requires.within told)) (c.in_ok-cut.ensures.done told) (c.in_ok-sync_cut.ensures.done told)

pub returns-in_err-cut-clause-offers : goal.returns-in_err-cut-clause-offers
returns-in_err-cut-clause-offers g c told = one_may_fail (g.met.D.Disk.seen_is_image c.args.disk.now told) (c.in_err-cut.ensures.failed told)

pub returns-in_err-sync_cut-clause-offers : goal.returns-in_err-sync_cut-clause-offers
returns-in_err-sync_cut-clause-offers g c told =
    two_may_fail (g.met.D.Disk.seen_is_image c.args.disk.now told) (c.in_ok-cut.ensures.done told) (g.met.D.Disk.seen_is_image c.cut.new.self told) (c.in_err-sync_cut.ensures.failed told)

pub returns-clause-offers : goal.returns-clause-offers
returns-clause-offers g c told =
    two_may_go (g.met.D.Disk.seen_is_image c.args.disk.now told) (c.in_ok-cut.ensures.done told) (g.met.D.Disk.seen_is_image c.cut.new.self told) (c.in_ok-sync_cut.ensures.done told)
