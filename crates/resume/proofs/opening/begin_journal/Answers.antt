use Rattle.std.proofs.Common.{◌≡◌, ◌++◌, ◌∷◌, [], ap, ◌∙◌, refl, length, List, ℕ, None}
use Rattle.std.proofs.lemmas.Result.{IfOk-weaker, IfErr-weaker}
use Rattle.outside.specs.Images.{LeavesOnly}
use Rattle.node_journal.specs.Appends.{IsWithOrWithout}
use Rattle.node_journal.specs.History.{ExtendsMoments, KeepsHistory}
use Rattle.node_journal.specs.Records.{records}
use Rattle.node_journal.specs.Views.{payloads_of}
use Rattle.node_journal.specs.Whole.{payloads_in}
use Rattle.resume.specs.Crashes.{IsAsBeforeOrBegun, LeavesHistory}
use Rattle.resume.specs.Refusals.{is_disk}
use Rattle.resume.proofs.KeptHistories.{unchanged, kept_joined, leaves_joined, leaves_failed}
use Rattle.resume.proofs.Recovering.{recovered, added, if_both, err_both}
use Rattle.resume.proofs.opening.begin_journal.Goals as goal

pub returns-in-Err-clause-any_moment_err : goal.returns-in-Err-clause-any_moment_err
returns-in-Err-clause-any_moment_err g c told rests = recovered _ _ _ _ _ _ (c.in-Err.ensures.any_moment_err told rests)

pub returns-in-Ok-clause-journal : goal.returns-in-Ok-clause-journal
returns-in-Ok-clause-journal g c told =
    let now = g.D.Disk.now in
    IfOk-weaker c.with_payload.result (λ j. payloads_in (now j.disk) ≡ payloads_in (now c.in-Ok.journal.disk) ++ c.args.model.now ∷ []) (λ j. payloads_in (now j.disk) ≡ c.args.model.now ∷ [])
    (λ j same. same ∙ ap (λ (l : List (List ℕ)). l ++ c.args.model.now ∷ []) (c.in-Ok.ensures.holds told ∙ c.requires.none)) (c.with_payload.ensures.journal told)

pub returns-in-Ok-clause-any_moment : goal.returns-in-Ok-clause-any_moment
returns-in-Ok-clause-any_moment g c told rests =
    let past = g.D.Disk.past in
    let now = g.D.Disk.now in
    let old = c.args.disk in
    let mid = c.in-Ok.journal.disk in
    IfOk-weaker c.with_payload.result (λ j. LeavesOnly (past mid) (now mid) (past j.disk) (now j.disk) (IsWithOrWithout (payloads_in (now mid)) c.args.model.now))
    (λ j. LeavesOnly (past old) (now old) (past j.disk) (now j.disk) (IsAsBeforeOrBegun (records (now old).seen) c.args.model.now))
    (λ j run. added _ _ _ (payloads_of c.args.scanned) _ _ _ _ _ _ (c.in-Ok.ensures.read told) c.requires.none (c.in-Ok.ensures.holds told) (c.in-Ok.ensures.any_moment told rests) run)
    (c.with_payload.ensures.any_moment told)

pub returns-in-Ok-clause-any_moment_err : goal.returns-in-Ok-clause-any_moment_err
returns-in-Ok-clause-any_moment_err g c told rests =
    let past = g.D.Disk.past in
    let now = g.D.Disk.now in
    let old = c.args.disk in
    let mid = c.in-Ok.journal.disk in
    IfErr-weaker c.with_payload.result (λ e. LeavesOnly (past mid) (now mid) (past e.1) (now e.1) (IsWithOrWithout (payloads_in (now mid)) c.args.model.now))
    (λ e. LeavesOnly (past old) (now old) (past e.1) (now e.1) (IsAsBeforeOrBegun (records (now old).seen) c.args.model.now))
    (λ e run. added _ _ _ (payloads_of c.args.scanned) _ _ _ _ _ _ (c.in-Ok.ensures.read told) c.requires.none (c.in-Ok.ensures.holds told) (c.in-Ok.ensures.any_moment told rests) run)
    (c.with_payload.ensures.any_moment_err told)

pub returns-in-Ok-clause-history : goal.returns-in-Ok-clause-history
returns-in-Ok-clause-history g c told rests =
    let past = g.D.Disk.past in
    let now = g.D.Disk.now in
    let old = c.args.disk in
    let mid = c.in-Ok.journal.disk in
    let seen = g.met.D.Disk.seen_is_image in
    let opened : KeepsHistory (length (past old)) (past mid) (now mid) (payloads_in (now mid)) None =
    unchanged _ _ _ _ (payloads_of c.args.scanned) _ (c.in-Ok.ensures.read told) (c.in-Ok.ensures.holds told) (c.in-Ok.ensures.any_moment told rests) (c.in-Ok.ensures.offers told) (seen mid told) in
    if_both c.with_payload.result (λ j. ExtendsMoments (past mid ++ now mid ∷ []) (past j.disk ++ now j.disk ∷ [])) (λ j. KeepsHistory c.in-Ok.journal.opened (past j.disk) (now j.disk) (payloads_in (now j.disk)) None)
    (λ j. KeepsHistory (length (past old)) (past j.disk) (now j.disk) (payloads_in (now j.disk)) None) (c.with_payload.ensures.continued told) (c.with_payload.ensures.kept told)
    (λ j extends kept. kept_joined (length (past old)) c.in-Ok.journal.opened (past mid) (past j.disk) (now mid) (now j.disk) (payloads_in (now mid)) opened (c.with_payload.ensures.held told) extends
    (c.with_payload.ensures.begun told) (seen j.disk told) None kept)

pub returns-in-Ok-clause-history_err : goal.returns-in-Ok-clause-history_err
returns-in-Ok-clause-history_err g c told rests ps holds =
    let past = g.D.Disk.past in
    let now = g.D.Disk.now in
    let old = c.args.disk in
    let mid = c.in-Ok.journal.disk in
    let seen = g.met.D.Disk.seen_is_image in
    let opened : KeepsHistory (length (past old)) (past mid) (now mid) (payloads_in (now mid)) None =
    unchanged _ _ _ _ (payloads_of c.args.scanned) _ (c.in-Ok.ensures.read told) (c.in-Ok.ensures.holds told) (c.in-Ok.ensures.any_moment told rests) (c.in-Ok.ensures.offers told) (seen mid told) in
    err_both c.with_payload.result (λ e. ExtendsMoments (past mid ++ now mid ∷ []) (past e.1 ++ now e.1 ∷ [])) (λ e. LeavesHistory c.in-Ok.journal.opened (past e.1) (now e.1) (is_disk e.0))
    (λ e. LeavesHistory (length (past old)) (past e.1) (now e.1) (is_disk e.0)) (c.with_payload.ensures.continued_err told) (c.with_payload.ensures.kept_err told)
    (λ e extends kept. leaves_joined (length (past old)) c.in-Ok.journal.opened (past mid) (past e.1) (now mid) (now e.1) (payloads_in (now mid)) opened (c.with_payload.ensures.held told) extends
    (c.with_payload.ensures.begun told) (seen e.1 told) (is_disk e.0) kept)

pub returns-in-Err-clause-history_err : goal.returns-in-Err-clause-history_err
returns-in-Err-clause-history_err g c told rests ps holds = leaves_failed _ _ _ (unchanged _ _ _ _ ps ps holds refl (c.in-Err.ensures.any_moment_err told rests) (c.in-Err.ensures.offers_err told) (g.met.D.Disk.seen_is_image c.in-Err.disk told)).history
