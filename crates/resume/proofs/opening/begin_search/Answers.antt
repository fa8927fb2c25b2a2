use Rattle.std.proofs.Common.{◌≡◌, ◌++◌, ◌∷◌, [], sym, subst, ap, ◌∙◌, refl, length, List, ℕ, None}
use Rattle.std.proofs.lemmas.Result.{IfOk-weaker, IfErr-weaker}
use Rattle.outside.specs.Images.{LeavesOnly}
use Rattle.event_core.specs.declared.entry.Entry.{Entry}
use Rattle.node_journal.specs.History.{ExtendsMoments, KeepsHistory}
use Rattle.node_journal.specs.Records.{records}
use Rattle.node_journal.specs.Whole.{payloads_in}
use Rattle.node_pool.specs.Payloads.{is_upgraded, with_upgrade, IsJournalOf}
use Rattle.resume.specs.Crashes.{IsAsBeforeOrBegun, IsUpgradedOrNot, LeavesHistory}
use Rattle.resume.specs.Refusals.{is_disk}
use Rattle.resume.proofs.KeptHistories.{untouched_history, kept_joined, leaves_joined}
use Rattle.resume.proofs.Recovering.{begun_upgraded, if_both, err_both}
use Rattle.resume.proofs.opening.begin_search.Goals as goal

pub returns-in_default-clause-history_err : goal.returns-in_default-clause-history_err
returns-in_default-clause-history_err g c told rests ps holds = untouched_history _ _ _ _ ps _ rests holds (record { none = refl; same = refl })

pub upgraded_pool-requires-clause-stands : goal.upgraded_pool-requires-clause-stands
upgraded_pool-requires-clause-stands g c told =
    subst (λ (ps : List (List ℕ)). IsJournalOf ps c.in-Ok.state.history) (sym (c.in-Ok-begin_journal.ensures.journal told))
    (subst (λ (es : List Entry). IsJournalOf (c.args.model.now ∷ []) es) (sym c.in-Ok.ensures.history) refl)

pub upgraded_pool-requires-clause-known : goal.upgraded_pool-requires-clause-known
upgraded_pool-requires-clause-known g c told = ap is_upgraded (sym (c.in-Ok-begin_journal.ensures.journal told))

pub returns-in-Ok-begin_journal-clause-journal : goal.returns-in-Ok-begin_journal-clause-journal
returns-in-Ok-begin_journal-clause-journal g c told =
    let now = g.D.Disk.now in
    IfOk-weaker c.upgraded_pool.result (λ p. payloads_in (now p.journal.disk) ≡ with_upgrade (payloads_in (now c.in-Ok-begin_journal.journal.disk))) (λ p. payloads_in (now p.journal.disk) ≡ with_upgrade (c.args.model.now ∷ []))
    (λ p same. same ∙ ap with_upgrade (c.in-Ok-begin_journal.ensures.journal told)) (c.upgraded_pool.ensures.journal told)

pub returns-in-Ok-begin_journal-clause-any_moment : goal.returns-in-Ok-begin_journal-clause-any_moment
returns-in-Ok-begin_journal-clause-any_moment g c told rests =
    let past = g.D.Disk.past in
    let now = g.D.Disk.now in
    let old = c.args.disk in
    let mid = c.in-Ok-begin_journal.journal.disk in
    IfOk-weaker c.upgraded_pool.result (λ p. LeavesOnly (past mid) (now mid) (past p.journal.disk) (now p.journal.disk) (IsUpgradedOrNot (payloads_in (now mid))))
    (λ p. LeavesOnly (past old) (now old) (past p.journal.disk) (now p.journal.disk) (IsAsBeforeOrBegun (records (now old).seen) c.args.model.now))
    (λ p run. begun_upgraded (records (now old).seen) c.args.model.now (payloads_in (now mid)) (past old) (past mid) (past p.journal.disk) (now old) (now mid) (now p.journal.disk) (c.begin_journal.ensures.before told)
    (c.in-Ok-begin_journal.ensures.journal told) (c.in-Ok-begin_journal.ensures.any_moment told rests) run)
    (c.upgraded_pool.ensures.any_moment told)

pub returns-in-Ok-begin_journal-clause-any_moment_err : goal.returns-in-Ok-begin_journal-clause-any_moment_err
returns-in-Ok-begin_journal-clause-any_moment_err g c told rests =
    let past = g.D.Disk.past in
    let now = g.D.Disk.now in
    let old = c.args.disk in
    let mid = c.in-Ok-begin_journal.journal.disk in
    IfErr-weaker c.upgraded_pool.result (λ e. LeavesOnly (past mid) (now mid) (past e.1) (now e.1) (IsUpgradedOrNot (payloads_in (now mid))))
    (λ e. LeavesOnly (past old) (now old) (past e.1) (now e.1) (IsAsBeforeOrBegun (records (now old).seen) c.args.model.now))
    (λ e run. begun_upgraded (records (now old).seen) c.args.model.now (payloads_in (now mid)) (past old) (past mid) (past e.1) (now old) (now mid) (now e.1) (c.begin_journal.ensures.before told)
    (c.in-Ok-begin_journal.ensures.journal told) (c.in-Ok-begin_journal.ensures.any_moment told rests) run)
    (c.upgraded_pool.ensures.any_moment_err told)

pub returns-in-Ok-begin_journal-clause-history : goal.returns-in-Ok-begin_journal-clause-history
returns-in-Ok-begin_journal-clause-history g c told rests =
    let past = g.D.Disk.past in
    let now = g.D.Disk.now in
    let old = c.args.disk in
    let j = c.in-Ok-begin_journal.journal in
    if_both c.upgraded_pool.result (λ p. ExtendsMoments (past j.disk ++ now j.disk ∷ []) (past p.journal.disk ++ now p.journal.disk ∷ []))
    (λ p. KeepsHistory j.opened (past p.journal.disk) (now p.journal.disk) (payloads_in (now p.journal.disk)) None)
    (λ p. KeepsHistory (length (past old)) (past p.journal.disk) (now p.journal.disk) (payloads_in (now p.journal.disk)) None) (c.upgraded_pool.ensures.continued told) (c.upgraded_pool.ensures.kept told)
    (λ p extends kept. kept_joined (length (past old)) j.opened (past j.disk) (past p.journal.disk) (now j.disk) (now p.journal.disk) (payloads_in (now j.disk)) (c.in-Ok-begin_journal.ensures.history told rests)
    (c.upgraded_pool.ensures.held told) extends (c.upgraded_pool.ensures.begun told) (g.met.D.Disk.seen_is_image p.journal.disk told) None kept)

pub returns-in-Ok-begin_journal-clause-history_err : goal.returns-in-Ok-begin_journal-clause-history_err
returns-in-Ok-begin_journal-clause-history_err g c told rests ps holds =
    let past = g.D.Disk.past in
    let now = g.D.Disk.now in
    let old = c.args.disk in
    let j = c.in-Ok-begin_journal.journal in
    err_both c.upgraded_pool.result (λ e. ExtendsMoments (past j.disk ++ now j.disk ∷ []) (past e.1 ++ now e.1 ∷ [])) (λ e. LeavesHistory j.opened (past e.1) (now e.1) (is_disk e.0))
    (λ e. LeavesHistory (length (past old)) (past e.1) (now e.1) (is_disk e.0)) (c.upgraded_pool.ensures.continued_err told) (c.upgraded_pool.ensures.kept_err told)
    (λ e extends kept. leaves_joined (length (past old)) j.opened (past j.disk) (past e.1) (now j.disk) (now e.1) (payloads_in (now j.disk)) (c.in-Ok-begin_journal.ensures.history told rests)
    (c.upgraded_pool.ensures.held told) extends (c.upgraded_pool.ensures.begun told) (g.met.D.Disk.seen_is_image e.1 told) (is_disk e.0) kept)
