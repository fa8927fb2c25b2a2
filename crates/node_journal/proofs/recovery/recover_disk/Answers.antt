use Rattle.std.proofs.Common.{◌∙◌}
use Rattle.node_journal.specs.Views.{payloads_of}
use Rattle.node_journal.proofs.Ends.{reads_records}
use Rattle.node_journal.proofs.Rested.{sync_fails, sync_may_fail, all_leave, all_can, opened_at, leave_since, kept_since}
use Rattle.node_journal.proofs.recovery.recover_disk.Goals as goal

pub returns-in_err-sync-clause-any_moment : goal.returns-in_err-sync-clause-any_moment
returns-in_err-sync-clause-any_moment g c told rests = sync_fails rests (c.in_err-sync.ensures.failed told)

pub returns-in_err-sync-clause-offers : goal.returns-in_err-sync-clause-offers
returns-in_err-sync-clause-offers g c told = sync_may_fail (g.met.D.Disk.seen_is_image c.args.disk.now told) (c.in_err-sync.ensures.failed told)

pub returns-in_err-repair-clause-any_moment : goal.returns-in_err-repair-clause-any_moment
returns-in_err-repair-clause-any_moment g c told rests =
    let ps = payloads_of c.args.scanned.now in
    let held = reads_records (g.D.Disk.now c.args.disk.now).seen ps c.args.scanned.now.small (c.requires told).reads in
    all_leave ps held (c.in_ok-sync.ensures.done told) (c.repair.ensures.any_moment told) rests

pub returns-in_err-repair-clause-offers : goal.returns-in_err-repair-clause-offers
returns-in_err-repair-clause-offers g c told =
    let ps = payloads_of c.args.scanned.now in
    let held = reads_records (g.D.Disk.now c.args.disk.now).seen ps c.args.scanned.now.small (c.requires told).reads in
    all_can ps held (c.in_ok-sync.ensures.done told) (c.repair.ensures.any_moment told) (g.met.D.Disk.seen_is_image c.args.disk.now told) (c.repair.ensures.offers told)

pub returns-clause-opened : goal.returns-clause-opened
returns-clause-opened g c told =
    let ps = payloads_of c.args.scanned.now in
    let held = reads_records (g.D.Disk.now c.args.disk.now).seen ps c.args.scanned.now.small (c.requires told).reads in
    opened_at ps held (c.in_ok-sync.ensures.done told) (c.repair.ensures.any_moment told) c.clock-opened.result (c.clock-opened.ensures ∙ g.met.D.Disk.ticks_is c.sync.new.self told)

pub returns-clause-kept : goal.returns-clause-kept
returns-clause-kept g c told =
    let ps = payloads_of c.args.scanned.now in
    let held = reads_records (g.D.Disk.now c.args.disk.now).seen ps c.args.scanned.now.small (c.requires told).reads in
    kept_since ps held (c.in_ok-sync.ensures.done told) (c.repair.ensures.any_moment told) c.clock-opened.result (c.clock-opened.ensures ∙ g.met.D.Disk.ticks_is c.sync.new.self told) (c.repair.ensures.offers told) (g.met.D.Disk.seen_is_image c.repair.new.disk told)

pub returns-clause-since : goal.returns-clause-since
returns-clause-since g c told =
    let ps = payloads_of c.args.scanned.now in
    let held = reads_records (g.D.Disk.now c.args.disk.now).seen ps c.args.scanned.now.small (c.requires told).reads in
    leave_since ps held (c.in_ok-sync.ensures.done told) (c.repair.ensures.any_moment told) c.clock-opened.result (c.clock-opened.ensures ∙ g.met.D.Disk.ticks_is c.sync.new.self told)

pub returns-clause-any_moment : goal.returns-clause-any_moment
returns-clause-any_moment g c told rests =
    let ps = payloads_of c.args.scanned.now in
    let held = reads_records (g.D.Disk.now c.args.disk.now).seen ps c.args.scanned.now.small (c.requires told).reads in
    all_leave ps held (c.in_ok-sync.ensures.done told) (c.repair.ensures.any_moment told) rests

pub returns-clause-offers : goal.returns-clause-offers
returns-clause-offers g c told =
    let ps = payloads_of c.args.scanned.now in
    let held = reads_records (g.D.Disk.now c.args.disk.now).seen ps c.args.scanned.now.small (c.requires told).reads in
    all_can ps held (c.in_ok-sync.ensures.done told) (c.repair.ensures.any_moment told) (g.met.D.Disk.seen_is_image c.args.disk.now told) (c.repair.ensures.offers told)
