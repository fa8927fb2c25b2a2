use Rattle.std.proofs.Common.{◌≡◌, ◌-◌}
use Rattle.event_codec.specs.Reading.{factors_at}
use Rattle.event_codec.proofs.Loops.{with_front}
use Rattle.event_codec.proofs.read_lists.rows.Given as goal

abbrev pub invariant-loop : goal.invariant-loop
invariant-loop l = with_front l.terms (factors_at l.enc l.least (l.count - l.counter) l.cursor) ≡ factors_at l.enc 0 l.count l.fn.cursor
