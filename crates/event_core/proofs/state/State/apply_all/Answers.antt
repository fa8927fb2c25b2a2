use Rattle.std.proofs.Common.{◌≡◌, ◌∙◌, sym, ap, subst, List, ◌∷◌, ◌++◌}
use Rattle.std.specs.Vec.Iter.{into_iter_items}
use Rattle.node_events.specs.declared.event.Event.{Event}
use Rattle.event_core.specs.declared.entry.Entry.{Entry}
use Rattle.event_core.specs.States.{State}
use Rattle.event_core.specs.Histories.{entries_by, state_from, AreLegalFrom}
use Rattle.event_core.specs.Rooms.{AreReady}
use Rattle.event_core.specs.Made.{made_for_each}
use Rattle.event_core.proofs.Several.{ready_rest, made_next, entries_more}
use Rattle.event_core.proofs.state.State.apply_all.Goals as goal

pub loop-event-preserved : goal.loop-event-preserved
loop-event-preserved c =
    let old = c.loop-event.self in
    let new = c.apply.new.self in
    let w = c.args.worker in
    let e = c.in-Some.event in
    let m = c.in-Some-next.made in
    let es = into_iter_items c.next.new.self in
    let ms = into_iter_items c.next-in-loop-event.new.self in
    let events : into_iter_items c.loop-event.event-iterator ≡ e ∷ es = c.in-Some.ensures.steps.0 in
    let made : into_iter_items c.loop-event.made ≡ m ∷ ms = c.in-Some-next.ensures.items in
    let legal : AreLegalFrom old.state (entries_by w (e ∷ es)) = subst (λ (l : List Event). AreLegalFrom old.state (entries_by w l)) events c.loop-event.invariant.legal in
    let ready : AreReady old (e ∷ es) = subst (λ (l : List Event). AreReady old l) events c.loop-event.invariant.ready in
    let next = made_next old.state w e es m ms (sym made ∙ c.loop-event.invariant.made ∙ ap (λ (l : List Event). made_for_each old.state.problem old.state.cuts l) events) in
    record {
      legal = subst (λ (s : State). AreLegalFrom s (entries_by w es)) (sym c.apply.ensures.state) legal.1;
      ready = ready_rest old new w e es ready c.apply.ensures.state c.apply.ensures.rooms c.apply.ensures.entries;
      made = next.rest ∙ ap (λ (s : State). made_for_each s.problem s.cuts es) (sym c.apply.ensures.state);
      state = ap (λ (s : State). state_from s (entries_by w es)) c.apply.ensures.state ∙ ap (λ (l : List Event). state_from old.state (entries_by w l)) (sym events) ∙ c.loop-event.invariant.state;
      history = ap (λ (l : List Entry). l ++ entries_by w es) c.apply.ensures.history ∙ entries_more old.history w e es ∙ ap (λ (l : List Event). old.history ++ entries_by w l) (sym events) ∙ c.loop-event.invariant.history;
    }
