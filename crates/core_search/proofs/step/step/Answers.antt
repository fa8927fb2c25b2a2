use Rattle.std.proofs.Common.{sym, ap, ◌∙◌, subst, Err}
use Rattle.event_core.specs.Rooms.{Recorded}
use Rattle.core_search.specs.Processing.{IsEnding, IsExhausted}
use Rattle.core_search.proofs.EndedBy.{ended_by}
use Rattle.core_search.proofs.OpenLists.{last_node, last_greatest}
use Rattle.core_search.proofs.Pooling.{goes_on}
use Rattle.core_search.proofs.Stepping.{held_claimed}
use Rattle.node_events.specs.declared.event.Event.TheVariants.{Release}
use Rattle.core_search.specs.Visits.{EndsNoNode}
use Rattle.core_search.proofs.Visiting.{unended_both, unended_one}
use Rattle.core_search.proofs.step.step.Goals as goal

pub claim_node-requires-clause-greatest : goal.claim_node-requires-clause-greatest
claim_node-requires-clause-greatest g c = last_greatest c.args.pool.now.state.state c.args.nodes.now.items c.args.node c.requires.nodes

pub process-requires-clause-held : goal.process-requires-clause-held
process-requires-clause-held g c =
    held_claimed c.args.pool.now.state.state c.claim_node.new.pool.state.state c.args.node.number c.in-Ok.ensures.claimed c.requires.unheld
    (last_node c.args.pool.now.state.state c.args.nodes.now.items c.args.node c.requires.nodes).opened

pub returns-in-Ok-process-clause-goes_on : goal.returns-in-Ok-process-clause-goes_on
returns-in-Ok-process-clause-goes_on g c = goes_on c.args.pool.now c.claim_node.new.pool c.process.new.pool c.claim_node.ensures.goes_on c.process.ensures.goes_on

pub returns-in-Err-clause-goes_on : goal.returns-in-Err-clause-goes_on
returns-in-Err-clause-goes_on g c =
    let a = c.args.pool.now in
    let b = c.process.new.pool in
    let z = c.release.new.pool in
    goes_on a z c.end_by-in-Err.new.pool (goes_on a b z (goes_on a c.claim_node.new.pool b c.claim_node.ensures.goes_on c.process.ensures.goes_on) c.release.ensures.goes_on) c.end_by-in-Err.ensures.goes_on

pub returns-in-Err-clause-ended : goal.returns-in-Err-clause-ended
returns-in-Err-clause-ended g c =
    let a = c.args.pool.now in
    let s = c.process.new.pool.state.state in
    let t = c.end_by-in-Err.new.pool.state.state in
    let released = ap (λ (r : Recorded). r.state) c.end_by-in-Err.ensures.state ∙ c.release.ensures.released in
    subst (λ x. IsEnding a.budget x t) (sym c.end_by-in-Err.ensures.ending)
    (ended_by a.budget c.in-Err.fault s t (λ q. subst (λ n. IsExhausted n s) c.claim_node.ensures.goes_on.budget (c.process.ensures.spent (c.in-Err.is ∙ ap Err q))) released)

pub returns-in-Ok-process-clause-visited : goal.returns-in-Ok-process-clause-visited
returns-in-Ok-process-clause-visited g c = record { claimed = c.claim_node.new.pool.state; claims = c.in-Ok.ensures.made; settled = c.in-Ok-process.ensures.settled }

pub returns-in-Err-clause-broken_off : goal.returns-in-Err-clause-broken_off
returns-in-Err-clause-broken_off g c =
    let a = c.args.pool.now.state in
    let b = c.claim_node.new.pool.state in
    let p = c.process.new.pool.state in
    let r = c.release.new.pool.state in
    let n = c.args.node.number in
    subst (EndsNoNode a) (sym c.end_by-in-Err.ensures.state)
    (unended_both a p r (unended_both a b p c.claim_node.ensures.unended c.in-Err.ensures.unended) (unended_one p r (Release n) tt c.release.ensures.made))

pub returns-in_default-clause-broken_off : goal.returns-in_default-clause-broken_off
returns-in_default-clause-broken_off g c = subst (EndsNoNode c.args.pool.now.state) (sym c.end_by.ensures.state) c.claim_node.ensures.unended
