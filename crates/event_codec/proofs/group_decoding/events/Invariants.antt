use Rattle.std.proofs.Common.{◌≡◌, ◌-◌}
use Rattle.event_codec.specs.Reading.{event_at, elements_at}
use Rattle.event_codec.proofs.Loops.{with_front}
use Rattle.event_codec.proofs.group_decoding.events.Given as goal

abbrev pub invariant-loop : goal.invariant-loop
invariant-loop l = with_front l.events.items (elements_at (event_at l.enc) (l.count - l.counter) l.cursor) ≡ elements_at (event_at l.enc) l.count l.fn.cursor
