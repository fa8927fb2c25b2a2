use Rattle.std.proofs.Common.{◌≡◌, ◌++◌, ◌∷◌, [], List, ℕ, sym, ap, subst, ◌∙◌, inl}
use Rattle.std.proofs.lemmas.Result.{IfOk-weaker, IfErr-weaker}
use Rattle.outside.specs.Images.{LeavesOnly}
use Rattle.outside.specs.Lemmas.Passing.{started, weaker}
use Rattle.node_journal.specs.Appends.{IsWithOrWithout}
use Rattle.node_journal.specs.Whole.{payloads_in}
use Rattle.node_journal.specs.Lemmas.Resting.{at_rest}
use Rattle.node_pool.specs.Payloads.{with_upgrade}
use Rattle.resume.specs.Crashes.{IsUpgradedOrNot}
use Rattle.resume.proofs.KeptHistories.{held_exactly, sound_history}
use Rattle.resume.proofs.Recovering.{upgrade_added, upgrade_there, with_or_without_is}
use Rattle.resume.proofs.opening.upgrade.Goals as goal

pub returns-then-upgraded-clause-journal : goal.returns-then-upgraded-clause-journal
returns-then-upgraded-clause-journal g c told = sym (upgrade_there (payloads_in (g.D.Disk.now c.args.journal.disk)) (sym (c.requires.known told) ∙ c.if-upgraded.true))

pub returns-then-upgraded-clause-any_moment : goal.returns-then-upgraded-clause-any_moment
returns-then-upgraded-clause-any_moment g c told =
    let now = g.D.Disk.now c.args.journal.disk in
    started (g.D.Disk.past c.args.journal.disk) now (IsUpgradedOrNot (payloads_in now))
    (λ b is. inl (held_exactly now (at_rest _ _ (c.history_holds.ensures.rests told c.requires.sound)) (c.history_holds.ensures.held told c.requires.sound) b is))

pub returns-then-upgraded-clause-kept : goal.returns-then-upgraded-clause-kept
returns-then-upgraded-clause-kept g c told = sound_history _ _ _ _ _ c.requires.sound (c.history_holds.ensures.kept told)

pub returns-then-upgraded-clause-continued : goal.returns-then-upgraded-clause-continued
returns-then-upgraded-clause-continued g c told i m at = at

pub returns-clause-journal : goal.returns-clause-journal
returns-clause-journal g c told =
    let ps = payloads_in (g.D.Disk.now c.args.journal.disk) in
    let code = c.upgrade_record.result in
    IfOk-weaker c.with_payload.result (λ j. payloads_in (g.D.Disk.now j.disk) ≡ ps ++ code ∷ []) (λ j. payloads_in (g.D.Disk.now j.disk) ≡ with_upgrade ps)
    (λ j same. same ∙ ap (λ (l : List ℕ). ps ++ l ∷ []) c.upgrade_record.ensures ∙ sym (upgrade_added ps (sym (c.requires.known told) ∙ c.if-upgraded.false))) (c.with_payload.ensures.journal told)

pub returns-clause-any_moment : goal.returns-clause-any_moment
returns-clause-any_moment g c told =
    let past = g.D.Disk.past in
    let now = g.D.Disk.now in
    let old = c.args.journal.disk in
    let ps = payloads_in (now old) in
    let code = c.upgrade_record.result in
    IfOk-weaker c.with_payload.result (λ j. LeavesOnly (past old) (now old) (past j.disk) (now j.disk) (IsWithOrWithout ps code)) (λ j. LeavesOnly (past old) (now old) (past j.disk) (now j.disk) (IsUpgradedOrNot ps))
    (λ j run. weaker (past old) (now old) (past j.disk) (now j.disk) (IsWithOrWithout ps code) (IsUpgradedOrNot ps) (λ b is. with_or_without_is ps b (sym (c.requires.known told) ∙ c.if-upgraded.false) (subst (λ (l : List ℕ). IsWithOrWithout ps l b) c.upgrade_record.ensures is)) run)
    (c.with_payload.ensures.any_moment told)

pub returns-clause-any_moment_err : goal.returns-clause-any_moment_err
returns-clause-any_moment_err g c told =
    let past = g.D.Disk.past in
    let now = g.D.Disk.now in
    let old = c.args.journal.disk in
    let ps = payloads_in (now old) in
    let code = c.upgrade_record.result in
    IfErr-weaker c.with_payload.result (λ e. LeavesOnly (past old) (now old) (past e.1) (now e.1) (IsWithOrWithout ps code)) (λ e. LeavesOnly (past old) (now old) (past e.1) (now e.1) (IsUpgradedOrNot ps))
    (λ e run. weaker (past old) (now old) (past e.1) (now e.1) (IsWithOrWithout ps code) (IsUpgradedOrNot ps) (λ b is. with_or_without_is ps b (sym (c.requires.known told) ∙ c.if-upgraded.false) (subst (λ (l : List ℕ). IsWithOrWithout ps l b) c.upgrade_record.ensures is)) run)
    (c.with_payload.ensures.any_moment_err told)
