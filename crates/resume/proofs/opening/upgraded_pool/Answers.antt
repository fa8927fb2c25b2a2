use Rattle.std.proofs.Common.{◌≡◌, ◌++◌, ◌∷◌, [], sym, subst, ap, ◌∙◌, refl, false, None, List, ℕ}
use Rattle.std.proofs.lemmas.Result.{IfErr-weaker}
use Rattle.outside.specs.Images.{AtRest, LeavesOnly}
use Rattle.node_journal.specs.History.{ExtendsMoments, KeepsHistory}
use Rattle.node_journal.specs.Whole.{payloads_in}
use Rattle.node_pool.specs.Payloads.{is_upgraded, with_upgrade, IsJournalOf}
use Rattle.resume.specs.Crashes.{IsUpgradedOrNot, LeavesHistory}
use Rattle.resume.specs.Refusals.{is_disk}
use Rattle.resume.specs.Lemmas.Standing.{upgraded_with}
use Rattle.resume.proofs.KeptHistories.{leaves}
use Rattle.resume.proofs.Recovering.{ok_part, err_part, journal_upgraded, journal_has_payload}
use Rattle.resume.proofs.opening.upgraded_pool.Goals as goal

pub make_pool-requires-clause-stands : goal.make_pool-requires-clause-stands
make_pool-requires-clause-stands g c told =
    subst (λ (ps : List (List ℕ)). IsJournalOf ps c.args.state.history) (sym (c.in-Ok.ensures.journal told)) (journal_upgraded (payloads_in (g.D.Disk.now c.args.journal.disk)) _ (c.requires.stands told))

pub make_pool-requires-clause-upgraded : goal.make_pool-requires-clause-upgraded
make_pool-requires-clause-upgraded g c told =
    let ps = payloads_in (g.D.Disk.now c.args.journal.disk) in
    ap is_upgraded (c.in-Ok.ensures.journal told) ∙ upgraded_with ps (journal_has_payload ps c.args.state.history (c.requires.stands told))

pub returns-in-Ok-clause-journal : goal.returns-in-Ok-clause-journal
returns-in-Ok-clause-journal g c told =
    ok_part c.make_pool.result (λ p. p.journal) c.in-Ok.journal (λ j. payloads_in (g.D.Disk.now j.disk) ≡ with_upgrade (payloads_in (g.D.Disk.now c.args.journal.disk))) c.make_pool.ensures.journal (c.in-Ok.ensures.journal told)

pub returns-in-Ok-clause-any_moment : goal.returns-in-Ok-clause-any_moment
returns-in-Ok-clause-any_moment g c told =
    let past = g.D.Disk.past in
    let now = g.D.Disk.now in
    let old = c.args.journal.disk in
    ok_part c.make_pool.result (λ p. p.journal) c.in-Ok.journal (λ j. LeavesOnly (past old) (now old) (past j.disk) (now j.disk) (IsUpgradedOrNot (payloads_in (now old)))) c.make_pool.ensures.journal (c.in-Ok.ensures.any_moment told)

pub returns-in-Ok-clause-any_moment_err : goal.returns-in-Ok-clause-any_moment_err
returns-in-Ok-clause-any_moment_err g c told =
    let past = g.D.Disk.past in
    let now = g.D.Disk.now in
    let old = c.args.journal.disk in
    err_part c.make_pool.result (λ e. e.1) c.in-Ok.journal.disk (λ d. LeavesOnly (past old) (now old) (past d) (now d) (IsUpgradedOrNot (payloads_in (now old)))) c.make_pool.ensures.back (c.in-Ok.ensures.any_moment told)

pub returns-in-Ok-clause-kept : goal.returns-in-Ok-clause-kept
returns-in-Ok-clause-kept g c told =
    ok_part c.make_pool.result (λ p. p.journal) c.in-Ok.journal (λ j. KeepsHistory c.args.journal.opened (g.D.Disk.past j.disk) (g.D.Disk.now j.disk) (payloads_in (g.D.Disk.now j.disk)) None) c.make_pool.ensures.journal (c.in-Ok.ensures.kept told)

pub returns-in-Ok-clause-kept_err : goal.returns-in-Ok-clause-kept_err
returns-in-Ok-clause-kept_err g c told =
    let past = g.D.Disk.past in
    let now = g.D.Disk.now in
    IfErr-weaker c.make_pool.result (λ e. e.1 ≡ c.in-Ok.journal.disk) (λ e. LeavesHistory c.args.journal.opened (past e.1) (now e.1) (is_disk e.0))
    (λ e same. subst (λ d. LeavesHistory c.args.journal.opened (past d) (now d) (is_disk e.0)) (sym same) (leaves _ _ _ _ _ refl (c.in-Ok.ensures.kept told))) c.make_pool.ensures.back

pub returns-in-Ok-clause-continued : goal.returns-in-Ok-clause-continued
returns-in-Ok-clause-continued g c told =
    let past = g.D.Disk.past in
    let now = g.D.Disk.now in
    let old = c.args.journal.disk in
    ok_part c.make_pool.result (λ p. p.journal) c.in-Ok.journal (λ j. ExtendsMoments (past old ++ now old ∷ []) (past j.disk ++ now j.disk ∷ [])) c.make_pool.ensures.journal (c.in-Ok.ensures.continued told)

pub returns-in-Ok-clause-continued_err : goal.returns-in-Ok-clause-continued_err
returns-in-Ok-clause-continued_err g c told =
    let past = g.D.Disk.past in
    let now = g.D.Disk.now in
    let old = c.args.journal.disk in
    err_part c.make_pool.result (λ e. e.1) c.in-Ok.journal.disk (λ d. ExtendsMoments (past old ++ now old ∷ []) (past d ++ now d ∷ [])) c.make_pool.ensures.back (c.in-Ok.ensures.continued told)

pub returns-in-Ok-clause-rests_err : goal.returns-in-Ok-clause-rests_err
returns-in-Ok-clause-rests_err g c told =
    IfErr-weaker c.make_pool.result (λ e. e.1 ≡ c.in-Ok.journal.disk) (λ e. is_disk e.0 ≡ false → AtRest (g.D.Disk.now e.1))
    (λ e same other. subst (λ d. AtRest (g.D.Disk.now d)) (sym same) (c.make_pool.ensures.rests told)) c.make_pool.ensures.back
