use Rattle.node_journal.proofs.Appending.{fails_1, fails_2, fails_3, fails_4, ends, may_1, may_2, may_3, may_4, may_end, remains_1, remains_2, remains_3, remains_4, remains_end}
use Rattle.node_journal.proofs.write_frame.open_behind.Goals as goal

pub returns-in_err-write_at-clause-any_moment : goal.returns-in_err-write_at-clause-any_moment
returns-in_err-write_at-clause-any_moment g c told =
    fails_1 c.args.frame.now c.args.end (g.D.Disk.past c.args.disk.now) (g.D.Disk.now c.args.disk.now) (c.requires.rest told) (c.requires.end told) _ _ (c.in_err-write_at.ensures.failed told)

pub returns-in_err-sync_frame-clause-any_moment : goal.returns-in_err-sync_frame-clause-any_moment
returns-in_err-sync_frame-clause-any_moment g c told =
    fails_2 c.args.frame.now c.args.end (g.D.Disk.past c.args.disk.now) (g.D.Disk.now c.args.disk.now) (c.requires.rest told) (c.requires.end told) _ _ (c.in_ok-write_at.ensures.done told) _ _ (c.in_err-sync_frame.ensures.failed told)

pub returns-in_err-write_at-2-clause-any_moment : goal.returns-in_err-write_at-2-clause-any_moment
returns-in_err-write_at-2-clause-any_moment g c told =
    fails_3 c.args.frame.now c.args.end (g.D.Disk.past c.args.disk.now) (g.D.Disk.now c.args.disk.now) (c.requires.rest told) (c.requires.end told) _ _ (c.in_ok-write_at.ensures.done told) _ _ (c.in_ok-sync_frame.ensures.done told) _ _ (c.in_err-write_at-2.ensures.failed told)

pub returns-in_err-sync_gate-clause-any_moment : goal.returns-in_err-sync_gate-clause-any_moment
returns-in_err-sync_gate-clause-any_moment g c told =
    fails_4 c.args.frame.now c.args.end (g.D.Disk.past c.args.disk.now) (g.D.Disk.now c.args.disk.now) (c.requires.rest told) (c.requires.end told) _ _ (c.in_ok-write_at.ensures.done told) _ _ (c.in_ok-sync_frame.ensures.done told) _ _ (c.in_ok-write_at-2.ensures.done told) _ _ (c.in_err-sync_gate.ensures.failed told)

pub returns-clause-any_moment : goal.returns-clause-any_moment
returns-clause-any_moment g c told =
    ends c.args.frame.now c.args.end (g.D.Disk.past c.args.disk.now) (g.D.Disk.now c.args.disk.now) (c.requires.rest told) (c.requires.end told) _ _ (c.in_ok-write_at.ensures.done told) _ _ (c.in_ok-sync_frame.ensures.done told) _ _ (c.in_ok-write_at-2.ensures.done told) _ _ (c.in_ok-sync_gate.ensures.done told)

pub returns-in_err-write_at-clause-before : goal.returns-in_err-write_at-clause-before
returns-in_err-write_at-clause-before g c told =
    may_1 c.args.frame.now c.args.end (g.D.Disk.past c.args.disk.now) (g.D.Disk.now c.args.disk.now) (c.requires.rest told) (c.requires.end told) _ _ (c.in_err-write_at.ensures.failed told)

pub returns-in_err-sync_frame-clause-before : goal.returns-in_err-sync_frame-clause-before
returns-in_err-sync_frame-clause-before g c told =
    may_2 c.args.frame.now c.args.end (g.D.Disk.past c.args.disk.now) (g.D.Disk.now c.args.disk.now) (c.requires.rest told) (c.requires.end told) _ _ (c.in_ok-write_at.ensures.done told) _ _ (c.in_err-sync_frame.ensures.failed told)

pub returns-in_err-write_at-2-clause-before : goal.returns-in_err-write_at-2-clause-before
returns-in_err-write_at-2-clause-before g c told =
    may_3 c.args.frame.now c.args.end (g.D.Disk.past c.args.disk.now) (g.D.Disk.now c.args.disk.now) (c.requires.rest told) (c.requires.end told) _ _ (c.in_ok-write_at.ensures.done told) _ _ (c.in_ok-sync_frame.ensures.done told) _ _ (c.in_err-write_at-2.ensures.failed told)

pub returns-in_err-sync_gate-clause-before : goal.returns-in_err-sync_gate-clause-before
returns-in_err-sync_gate-clause-before g c told =
    may_4 c.args.frame.now c.args.end (g.D.Disk.past c.args.disk.now) (g.D.Disk.now c.args.disk.now) (c.requires.rest told) (c.requires.end told) _ _ (c.in_ok-write_at.ensures.done told) _ _ (c.in_ok-sync_frame.ensures.done told) _ _ (c.in_ok-write_at-2.ensures.done told) _ _ (c.in_err-sync_gate.ensures.failed told)

pub returns-clause-before : goal.returns-clause-before
returns-clause-before g c told =
    may_end c.args.frame.now c.args.end (g.D.Disk.past c.args.disk.now) (g.D.Disk.now c.args.disk.now) (c.requires.rest told) (c.requires.end told) _ _ (c.in_ok-write_at.ensures.done told) _ _ (c.in_ok-sync_frame.ensures.done told) _ _ (c.in_ok-write_at-2.ensures.done told) _ _ (c.in_ok-sync_gate.ensures.done told)

pub returns-in_err-write_at-clause-remains : goal.returns-in_err-write_at-clause-remains
returns-in_err-write_at-clause-remains g c told =
    remains_1 c.args.frame.now c.args.end (g.D.Disk.past c.args.disk.now) (g.D.Disk.now c.args.disk.now) (c.requires.rest told) (c.requires.end told) _ _ (c.in_err-write_at.ensures.failed told)

pub returns-in_err-sync_frame-clause-remains : goal.returns-in_err-sync_frame-clause-remains
returns-in_err-sync_frame-clause-remains g c told =
    remains_2 c.args.frame.now c.args.end (g.D.Disk.past c.args.disk.now) (g.D.Disk.now c.args.disk.now) (c.requires.rest told) (c.requires.end told) _ _ (c.in_ok-write_at.ensures.done told) _ _ (c.in_err-sync_frame.ensures.failed told)

pub returns-in_err-write_at-2-clause-remains : goal.returns-in_err-write_at-2-clause-remains
returns-in_err-write_at-2-clause-remains g c told =
    remains_3 c.args.frame.now c.args.end (g.D.Disk.past c.args.disk.now) (g.D.Disk.now c.args.disk.now) (c.requires.rest told) (c.requires.end told) _ _ (c.in_ok-write_at.ensures.done told) _ _ (c.in_ok-sync_frame.ensures.done told) _ _ (c.in_err-write_at-2.ensures.failed told)

pub returns-in_err-sync_gate-clause-remains : goal.returns-in_err-sync_gate-clause-remains
returns-in_err-sync_gate-clause-remains g c told =
    remains_4 c.args.frame.now c.args.end (g.D.Disk.past c.args.disk.now) (g.D.Disk.now c.args.disk.now) (c.requires.rest told) (c.requires.end told) _ _ (c.in_ok-write_at.ensures.done told) _ _ (c.in_ok-sync_frame.ensures.done told) _ _ (c.in_ok-write_at-2.ensures.done told) _ _ (c.sync_gate.ensures.seen told) (g.met.D.Disk.seen_is_image c.sync_gate.new.disk told) (c.in_err-sync_gate.ensures.failed told)

pub returns-clause-remains : goal.returns-clause-remains
returns-clause-remains g c told =
    remains_end c.args.frame.now c.args.end (g.D.Disk.past c.args.disk.now) (g.D.Disk.now c.args.disk.now) (c.requires.rest told) (c.requires.end told) _ _ (c.in_ok-write_at.ensures.done told) _ _ (c.in_ok-sync_frame.ensures.done told) _ _ (c.in_ok-write_at-2.ensures.done told) _ _ (c.sync_gate.ensures.seen told) (g.met.D.Disk.seen_is_image c.sync_gate.new.disk told) (c.in_ok-sync_gate.ensures.done told)
