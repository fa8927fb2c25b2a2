use Rattle.std.proofs.Common.{◌≡◌, ◌+◌, ◌++◌, ◌∷◌, [], ◌∙◌, ap, sym, arith, drop, List}
use Rattle.std.proofs.lemmas.List.{drop_more, append_assoc}
use Rattle.node_events.specs.declared.event.Event.{Event}
use Rattle.event_core.specs.declared.made.Made.{Made}
use Rattle.event_core.specs.Made.{made_for_each}
use Rattle.event_core.proofs.Begun.{begun_on}
use Rattle.event_core.proofs.making.made_over.Goals as goal

pub loop-event-preserved : goal.loop-event-preserved
loop-event-preserved c =
    let p = c.args.problem.now in
    let cs = c.loop-event.book.cuts in
    let es = c.args.events.now in
    let e = c.event-item.result in
    let rest = drop (c.loop-event.event-index + 1) es in
    let all = c.loop-event.all.items in
    let next : drop c.loop-event.event-index es ≡ e ∷ rest = drop_more es c.loop-event.event-index e (omega arith) ∙ ap (λ (x : Event). x ∷ rest) (sym c.event-item.is) in
    record {
      made = ap (λ (ms : List Made). ms ++ made_for_each p c.put_cut.new.book.cuts rest) c.in_ok-push.ensures.items
          ∙ append_assoc all (c.in_ok-made.made ∷ []) (made_for_each p c.put_cut.new.book.cuts rest)
          ∙ (λ i. all ++ c.in_ok-made.ensures i ∷ made_for_each p (c.in_ok-put_cut.ensures.cuts i) rest)
          ∙ ap (λ (l : List Event). all ++ made_for_each p cs l) (sym next) ∙ c.loop-event.invariant.made;
      begun = begun_on c.args.book.now.cuts cs c.put_cut.new.book.cuts c.loop-event.invariant.begun c.in_ok-put_cut.ensures.begun;
      room = omega (arith, c.loop-event.invariant.room, c.in_ok-put_cut.ensures.room);
    }
