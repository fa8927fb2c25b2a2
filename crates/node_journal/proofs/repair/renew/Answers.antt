use Rattle.node_journal.proofs.Repairing.{first_fails, second_fails, both_go, one_may_fail, two_may_fail, two_may_go, renew_step}
use Rattle.node_journal.proofs.repair.renew.Goals as goal

pub returns-in_err-write_at-clause-any_moment : goal.returns-in_err-write_at-clause-any_moment
returns-in_err-write_at-clause-any_moment g c told = first_fails (renew_step (g.D.Disk.now c.args.disk.now) (c.requires.rest told) (c.requires.short told)) (c.in_err-write_at.ensures.failed told)

pub returns-in_err-sync-clause-any_moment : goal.returns-in_err-sync-clause-any_moment
returns-in_err-sync-clause-any_moment g c told = second_fails (renew_step (g.D.Disk.now c.args.disk.now) (c.requires.rest told) (c.requires.short told)) (c.in_ok-write_at.ensures.done told) (c.in_err-sync.ensures.failed told)

pub returns-clause-any_moment : goal.returns-clause-any_moment
returns-clause-any_moment g c told = both_go (renew_step (g.D.Disk.now c.args.disk.now) (c.requires.rest told) (c.requires.short told)) (c.in_ok-write_at.ensures.done told) (c.in_ok-sync.ensures.done told)

pub returns-in_err-write_at-clause-offers : goal.returns-in_err-write_at-clause-offers
returns-in_err-write_at-clause-offers g c told = one_may_fail (g.met.D.Disk.seen_is_image c.args.disk.now told) (c.in_err-write_at.ensures.failed told)

pub returns-in_err-sync-clause-offers : goal.returns-in_err-sync-clause-offers
returns-in_err-sync-clause-offers g c told =
    two_may_fail (g.met.D.Disk.seen_is_image c.args.disk.now told) (c.in_ok-write_at.ensures.done told) (g.met.D.Disk.seen_is_image c.write_at.new.self told) (c.in_err-sync.ensures.failed told)

pub returns-clause-offers : goal.returns-clause-offers
returns-clause-offers g c told =
    two_may_go (g.met.D.Disk.seen_is_image c.args.disk.now told) (c.in_ok-write_at.ensures.done told) (g.met.D.Disk.seen_is_image c.write_at.new.self told) (c.in_ok-sync.ensures.done told)
