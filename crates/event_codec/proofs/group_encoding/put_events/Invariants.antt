use Rattle.std.proofs.Common.{◌≡◌, ◌++◌, take, All}
use Rattle.std.specs.List.{flat_map}
use Rattle.event_codec.specs.Codes.{code}
use Rattle.event_codec.specs.Types.{IsEvent}
use Rattle.event_codec.proofs.group_encoding.put_events.Given as goal

-- the codes of the events so far
abbrev pub invariant-loop-event : goal.invariant-loop-event
invariant-loop-event l = record {
  spelled : l.out.items ≡ l.fn.out.items ++ flat_map (code l.enc) (take l.event-index l.events);
  typed : All IsEvent (take l.event-index l.events);
}
