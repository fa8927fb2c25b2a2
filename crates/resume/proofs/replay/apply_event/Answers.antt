use Rattle.std.proofs.Common.{◌≡◌, ◌∙◌, ap, sym, subst, true, true≢false, None, length, ◌≤◌}
use Rattle.node_tree.specs.Limits.{most_nodes}
use Rattle.dual_simplex.specs.Prepared.{IsKept}
use Rattle.event_core.specs.declared.admit.Admit.TheVariants.{Yes}
use Rattle.event_core.specs.States.{State}
use Rattle.event_core.specs.Judging.{judged}
use Rattle.event_core.specs.After.{after}
use Rattle.event_core.specs.Rooms.{Recorded, HasNumbers}
use Rattle.event_core.specs.Lemmas.Kept.{kept_after}
use Rattle.resume.proofs.Applying.{stays_few, has_numbers}
use Rattle.resume.proofs.replay.apply_event.Goals as goal

pub returns-clause-few : goal.returns-clause-few
returns-clause-few c =
    let e = c.args.event in
    let there = ap (λ (r : Recorded). r.state) c.approach.ensures in
    let numbers : HasNumbers c.args.state.now.state e = subst (λ (s : State). HasNumbers s e) there (c.in_ok-may_come.ensures.may.0 c.if-not-branch.false).1 in
    subst (λ (s : State). length s.nodes ≤ most_nodes) (sym (c.apply.ensures.state ∙ ap (λ (s : State). after s None e) (c.reserve.ensures.stays.state ∙ there)))
    (stays_few c.args.state.now.state e c.requires.few numbers)

pub returns-clause-kept : goal.returns-clause-kept
returns-clause-kept c =
    let e = c.args.event in
    let k = c.may_come.new.kept in
    subst (λ (s : State). IsKept s.problem s.cuts k) (sym (c.apply.ensures.state ∙ ap (λ (s : State). after s None e) c.reserve.ensures.stays.state))
    (kept_after c.approach.new.self.state None e k c.in_ok-may_come.ensures.kept)

pub returns-then-not-branch-clause-damaged : goal.returns-then-not-branch-clause-damaged
returns-then-not-branch-clause-damaged c broken legal few =
    let e = c.args.event in
    let there = sym (ap (λ (r : Recorded). r.state) c.approach.ensures) in
    let admitted = subst (λ (s : State). judged s None e ≡ Yes) there legal.admitted in
    let numbers = subst (λ (s : State). HasNumbers s e) there (has_numbers c.args.state.now.state e few) in
    let may : c.in_ok-may_come.field-0 ≡ true = c.in_ok-may_come.ensures.may.1 (admitted, numbers) in
    true≢false (sym may ∙ c.if-not-branch.true)
