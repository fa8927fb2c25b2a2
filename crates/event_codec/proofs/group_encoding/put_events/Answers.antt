use Rattle.std.proofs.Common.{◌++◌, ◌∙◌, ap, sym, subst, List, ℕ, take, append_assoc}
use Rattle.std.specs.List.{flat_map}
use Rattle.std.proofs.lemmas.List.Elements.{All-more}
use Rattle.event_codec.specs.Codes.{code}
use Rattle.event_codec.specs.Types.{IsEvent}
use Rattle.event_codec.proofs.Elements.{one_more_at}
use Rattle.event_codec.proofs.group_encoding.put_events.Goals as goal

pub loop-event-preserved : goal.loop-event-preserved
loop-event-preserved c =
    let i = c.loop-event.event-index in
    let events = c.args.events.now in
    let before = c.args.out.now.items in
    let e = c.event-item.result in
    record {
      spelled = c.in_ok-put_event.ensures.spelled ∙ ap (λ (x : List ℕ). x ++ code c.args.enc e) c.loop-event.invariant.spelled ∙ append_assoc before (flat_map (code c.args.enc) (take i events)) (code c.args.enc e)
          ∙ ap (λ (x : List ℕ). before ++ x) (sym (one_more_at (code c.args.enc) events i e e c.loop-event-test.true c.event-item.is));
      typed = All-more IsEvent events i e c.loop-event-test.true c.loop-event.invariant.typed (subst IsEvent c.event-item.is c.in_ok-put_event.ensures.typed);
    }
