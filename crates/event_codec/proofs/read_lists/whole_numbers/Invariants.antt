use Rattle.std.proofs.Common.{◌≡◌, ◌-◌}
use Rattle.event_codec.specs.Reading.{i64_at, elements_at}
use Rattle.event_codec.proofs.Loops.{with_front}
use Rattle.event_codec.proofs.read_lists.whole_numbers.Given as goal

abbrev pub invariant-loop : goal.invariant-loop
invariant-loop l = with_front l.numbers.items (elements_at (i64_at l.enc) (l.count - l.counter) l.cursor) ≡ elements_at (i64_at l.enc) l.count l.fn.cursor
