use Rattle.std.proofs.Common.{◌≡◌, ℕ, ◌-◌, length, ap, subst, ◌∙◌}
use Rattle.event_core.specs.States.{State}
use Rattle.event_core.specs.Rooms.{Recorded}
use Rattle.expand.specs.declared.settlement.Settlement.{Settlement}
use Rattle.core_search.specs.Visits.{IsLook, at_once, with_cuts}
use Rattle.core_search.proofs.Stepping.{on_any_err}
use Rattle.core_search.proofs.Visiting.{no_change, unended_cuts, unended_stays}
use Rattle.core_search.proofs.deciding.decide.Goals as goal

pub returns-in_default-clause-unended : goal.returns-in_default-clause-unended
returns-in_default-clause-unended g c = unended_stays c.args.pool.now.state c.args.pool.now.state (no_change c.args.pool.now.state)

-- a look without cuts
pub returns-in_default-first-clause-decision : goal.returns-in_default-first-clause-decision
returns-in_default-first-clause-decision g c =
    let a = c.args.pool.now.state in
    let w = c.args.worker.now in
    let same : c.state-state.result.now.state ≡ a.state = ap (λ (r : Recorded). r.state) c.state-state.ensures in
    let room : c.saturating_sub-room.result ≡ w.limit - length a.state.cuts =
    c.saturating_sub-room.ensures ∙ ap (λ n. w.limit - n) (c.len.ensures ∙ ap length (c.book.ensures ∙ ap (λ (s : State). s.cuts) same)) in
    at_once
    (subst (λ (x : ℕ × State). IsLook w.limit x.0 x.1 c.args.node.now w.costs c.settlement.new.worker.costs c.in-Ok.first) (λ i. (room i, same i)) c.in-Ok.ensures.looked)
    (no_change a)

pub returns-in-Ok-settle_again-clause-decision : goal.returns-in-Ok-settle_again-clause-decision
returns-in-Ok-settle_again-clause-decision g c =
    let a = c.args.pool.now.state in
    let w = c.args.worker.now in
    let middle = c.settlement.new.worker in
    let last = c.settle_again.new.worker.costs in
    let second = c.in-Ok-settle_again.settlement in
    let same : c.state-state.result.now.state ≡ a.state = ap (λ (r : Recorded). r.state) c.state-state.ensures in
    let room : c.saturating_sub-room.result ≡ w.limit - length a.state.cuts =
    c.saturating_sub-room.ensures ∙ ap (λ n. w.limit - n) (c.len.ensures ∙ ap length (c.book.ensures ∙ ap (λ (s : State). s.cuts) same)) in
    with_cuts c.in-Separated.mults middle.costs
    (subst (λ (g : Settlement). IsLook w.limit (w.limit - length a.state.cuts) a.state c.args.node.now w.costs middle.costs g) c.in-Separated.is
    (subst (λ (x : ℕ × State). IsLook w.limit x.0 x.1 c.args.node.now w.costs middle.costs c.in-Ok.first) (λ i. (room i, same i)) c.in-Ok.ensures.looked))
    c.in_ok-add_cuts.ensures.made
    (subst (λ (x : ℕ × State). IsLook x.0 0 x.1 c.args.node.now middle.costs last second)
    (λ i. (c.settlement.ensures.limit i, ap (λ (r : Recorded). r.state) c.state.ensures i)) c.in-Ok-settle_again.ensures.looked)

pub returns-in-Err-clause-unended : goal.returns-in-Err-clause-unended
returns-in-Err-clause-unended g c = unended_cuts c.args.pool.now.state c.add_cuts.new.pool.state c.in-Separated.mults c.in_ok-add_cuts.ensures.made

pub returns-in_err-add_cuts-clause-unended : goal.returns-in_err-add_cuts-clause-unended
returns-in_err-add_cuts-clause-unended g c = on_any_err c.from_residual.result (unended_stays c.args.pool.now.state c.add_cuts.new.pool.state c.in_err-add_cuts.ensures.unmade)
