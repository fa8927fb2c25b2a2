use Rattle.std.proofs.Common.{◌≡◌, ◌++◌, ◌∷◌, [], sym, subst, ap, ◌∙◌, inl, refl, length, List, ℕ, None}
use Rattle.std.proofs.lemmas.Result.{IfOk-weaker, IfErr-weaker}
use Rattle.outside.specs.Images.{LeavesOnly}
use Rattle.outside.specs.Lemmas.Passing.{weaker}
use Rattle.node_journal.specs.History.{ExtendsMoments, KeepsHistory}
use Rattle.node_journal.specs.Records.{records}
use Rattle.node_journal.specs.Views.{payloads_of}
use Rattle.node_journal.specs.Whole.{payloads_in}
use Rattle.node_pool.specs.Payloads.{is_upgraded, with_upgrade, IsJournalOf}
use Rattle.resume.specs.Crashes.{IsAsBefore, IsUpgradedOrNot, LeavesHistory}
use Rattle.resume.specs.Refusals.{is_disk}
use Rattle.resume.proofs.KeptHistories.{unchanged, kept_joined, leaves_joined, leaves_failed}
use Rattle.resume.proofs.Recovering.{is_journal, some_payload, recovered_upgraded, if_both, err_both}
use Rattle.resume.proofs.opening.continue_journal.Goals as goal

pub upgraded_pool-requires-clause-stands : goal.upgraded_pool-requires-clause-stands
upgraded_pool-requires-clause-stands g c told =
    subst (λ (ps : List (List ℕ)). IsJournalOf ps c.args.state.history) (sym (c.in-Ok.ensures.holds told))
    (is_journal c.args.state.state.problem (payloads_of c.args.scanned) c.args.state.history c.requires.read.stands)

pub upgraded_pool-requires-clause-known : goal.upgraded_pool-requires-clause-known
upgraded_pool-requires-clause-known g c told = c.requires.known ∙ ap is_upgraded (sym (c.in-Ok.ensures.holds told))

pub returns-in-Ok-clause-journal : goal.returns-in-Ok-clause-journal
returns-in-Ok-clause-journal g c told =
    let now = g.D.Disk.now in
    IfOk-weaker c.upgraded_pool.result (λ p. payloads_in (now p.journal.disk) ≡ with_upgrade (payloads_in (now c.in-Ok.journal.disk))) (λ p. payloads_in (now p.journal.disk) ≡ with_upgrade (payloads_of c.args.scanned))
    (λ p same. same ∙ ap with_upgrade (c.in-Ok.ensures.holds told)) (c.upgraded_pool.ensures.journal told)

pub returns-in-Ok-clause-any_moment : goal.returns-in-Ok-clause-any_moment
returns-in-Ok-clause-any_moment g c told rests =
    let past = g.D.Disk.past in
    let now = g.D.Disk.now in
    let old = c.args.disk in
    let mid = c.in-Ok.journal.disk in
    let ps = payloads_of c.args.scanned in
    IfOk-weaker c.upgraded_pool.result (λ p. LeavesOnly (past mid) (now mid) (past p.journal.disk) (now p.journal.disk) (IsUpgradedOrNot (payloads_in (now mid))))
    (λ p. LeavesOnly (past old) (now old) (past p.journal.disk) (now p.journal.disk) (IsAsBefore (records (now old).seen)))
    (λ p run. recovered_upgraded (records (now old).seen) (payloads_in (now mid)) ps (past old) (past mid) (past p.journal.disk) (now old) (now mid) (now p.journal.disk) (c.in-Ok.ensures.read told)
    (some_payload c.args.state.state.problem ps c.args.state.history c.requires.read.stands) (c.in-Ok.ensures.holds told) (c.in-Ok.ensures.any_moment told rests) run)
    (c.upgraded_pool.ensures.any_moment told)

pub returns-in-Ok-clause-any_moment_err : goal.returns-in-Ok-clause-any_moment_err
returns-in-Ok-clause-any_moment_err g c told rests =
    let past = g.D.Disk.past in
    let now = g.D.Disk.now in
    let old = c.args.disk in
    let mid = c.in-Ok.journal.disk in
    let ps = payloads_of c.args.scanned in
    IfErr-weaker c.upgraded_pool.result (λ e. LeavesOnly (past mid) (now mid) (past e.1) (now e.1) (IsUpgradedOrNot (payloads_in (now mid))))
    (λ e. LeavesOnly (past old) (now old) (past e.1) (now e.1) (IsAsBefore (records (now old).seen)))
    (λ e run. recovered_upgraded (records (now old).seen) (payloads_in (now mid)) ps (past old) (past mid) (past e.1) (now old) (now mid) (now e.1) (c.in-Ok.ensures.read told)
    (some_payload c.args.state.state.problem ps c.args.state.history c.requires.read.stands) (c.in-Ok.ensures.holds told) (c.in-Ok.ensures.any_moment told rests) run)
    (c.upgraded_pool.ensures.any_moment_err told)

pub returns-in-Err-clause-any_moment_err : goal.returns-in-Err-clause-any_moment_err
returns-in-Err-clause-any_moment_err g c told rests =
    let past = g.D.Disk.past in
    let now = g.D.Disk.now in
    let before = records (now c.args.disk).seen in
    weaker (past c.args.disk) (now c.args.disk) (past c.in-Err.disk) (now c.in-Err.disk) (λ b. records b ≡ before) (IsAsBefore before) (λ b same. inl same) (c.in-Err.ensures.any_moment_err told rests)

pub returns-in-Ok-clause-history : goal.returns-in-Ok-clause-history
returns-in-Ok-clause-history g c told rests =
    let past = g.D.Disk.past in
    let now = g.D.Disk.now in
    let old = c.args.disk in
    let mid = c.in-Ok.journal.disk in
    let seen = g.met.D.Disk.seen_is_image in
    let opened : KeepsHistory (length (past old)) (past mid) (now mid) (payloads_in (now mid)) None =
    unchanged _ _ _ _ (payloads_of c.args.scanned) _ (c.in-Ok.ensures.read told) (c.in-Ok.ensures.holds told) (c.in-Ok.ensures.any_moment told rests) (c.in-Ok.ensures.offers told) (seen mid told) in
    if_both c.upgraded_pool.result (λ p. ExtendsMoments (past mid ++ now mid ∷ []) (past p.journal.disk ++ now p.journal.disk ∷ []))
    (λ p. KeepsHistory c.in-Ok.journal.opened (past p.journal.disk) (now p.journal.disk) (payloads_in (now p.journal.disk)) None)
    (λ p. KeepsHistory (length (past old)) (past p.journal.disk) (now p.journal.disk) (payloads_in (now p.journal.disk)) None) (c.upgraded_pool.ensures.continued told) (c.upgraded_pool.ensures.kept told)
    (λ p extends kept. kept_joined (length (past old)) c.in-Ok.journal.opened (past mid) (past p.journal.disk) (now mid) (now p.journal.disk) (payloads_in (now mid)) opened (c.upgraded_pool.ensures.held told) extends
    (c.upgraded_pool.ensures.begun told) (seen p.journal.disk told) None kept)

pub returns-in-Ok-clause-history_err : goal.returns-in-Ok-clause-history_err
returns-in-Ok-clause-history_err g c told rests ps holds =
    let past = g.D.Disk.past in
    let now = g.D.Disk.now in
    let old = c.args.disk in
    let mid = c.in-Ok.journal.disk in
    let seen = g.met.D.Disk.seen_is_image in
    let opened : KeepsHistory (length (past old)) (past mid) (now mid) (payloads_in (now mid)) None =
    unchanged _ _ _ _ (payloads_of c.args.scanned) _ (c.in-Ok.ensures.read told) (c.in-Ok.ensures.holds told) (c.in-Ok.ensures.any_moment told rests) (c.in-Ok.ensures.offers told) (seen mid told) in
    err_both c.upgraded_pool.result (λ e. ExtendsMoments (past mid ++ now mid ∷ []) (past e.1 ++ now e.1 ∷ [])) (λ e. LeavesHistory c.in-Ok.journal.opened (past e.1) (now e.1) (is_disk e.0))
    (λ e. LeavesHistory (length (past old)) (past e.1) (now e.1) (is_disk e.0)) (c.upgraded_pool.ensures.continued_err told) (c.upgraded_pool.ensures.kept_err told)
    (λ e extends kept. leaves_joined (length (past old)) c.in-Ok.journal.opened (past mid) (past e.1) (now mid) (now e.1) (payloads_in (now mid)) opened (c.upgraded_pool.ensures.held told) extends
    (c.upgraded_pool.ensures.begun told) (seen e.1 told) (is_disk e.0) kept)

pub returns-in-Err-clause-history_err : goal.returns-in-Err-clause-history_err
returns-in-Err-clause-history_err g c told rests ps holds = leaves_failed _ _ _ (unchanged _ _ _ _ ps ps holds refl (c.in-Err.ensures.any_moment_err told rests) (c.in-Err.ensures.offers_err told) (g.met.D.Disk.seen_is_image c.in-Err.disk told)).history
