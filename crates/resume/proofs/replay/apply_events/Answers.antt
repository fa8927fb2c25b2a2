use Rattle.std.proofs.Common.{◌≡◌, subst, List, ◌∷◌, Err, IsErrOf}
use Rattle.std.proofs.lemmas.Result.{err_from_is_err_and}
use Rattle.std.specs.Vec.Iter.{into_iter_items}
use Rattle.node_events.specs.declared.event.Event.{Event}
use Rattle.resume.specs.declared.fault.PayloadFault.{PayloadFault}
use Rattle.resume.specs.declared.fault.PayloadFault.TheVariants.{Damaged}
use Rattle.resume.proofs.Applying.{IsOnTheWay, one_applied, none_further, none_applied}
use Rattle.resume.proofs.replay.apply_events.Goals as goal

pub loop-event-init : goal.loop-event-init
loop-event-init c =
    (none_applied c.args.state.now c.args.events.items (into_iter_items c.into_iter-event-iterator.result) c.into_iter-event-iterator.ensures.into_iter_gives.0 c.requires.unheld c.requires.few c.requires.journaled, c.requires.kept)

pub loop-event-preserved : goal.loop-event-preserved
loop-event-preserved c =
    let left = into_iter_items c.next.new.self in
    let e = c.in-Some.event in
    let items : into_iter_items c.loop-event.event-iterator ≡ e ∷ left = c.in-Some.ensures.steps.0 in
    let way = subst (λ (l : List Event). IsOnTheWay c.args.state.now c.loop-event.state c.args.events.items l) items c.loop-event.invariant.0 in
    let done = c.in_ok-apply_event.ensures in
    (one_applied c.args.state.now c.loop-event.state c.args.events.items left e way c.apply_event.new.state done.legal done.few done.state done.history, done.kept)

pub returns-in_err-apply_event-clause-damaged : goal.returns-in_err-apply_event-clause-damaged
returns-in_err-apply_event-clause-damaged c broken legal few =
    let left = into_iter_items c.next.new.self in
    let e = c.in-Some.event in
    let items : into_iter_items c.loop-event.event-iterator ≡ e ∷ left = c.in-Some.ensures.steps.0 in
    let way = subst (λ (l : List Event). IsOnTheWay c.args.state.now c.loop-event.state c.args.events.items l) items c.loop-event.invariant.0 in
    let f = err_from_is_err_and c.from_residual.result c.from_residual.ensures.1 in
    let here = subst (λ r. IsErrOf r Damaged) f.1 broken in
    let there = subst (λ (x : PayloadFault). IsErrOf {T = Unit {0}} (Err x) Damaged) f.2 here in
    none_further c.args.state.now c.loop-event.state c.args.events.items left e way (c.in_err-apply_event.ensures.damaged there) legal few
