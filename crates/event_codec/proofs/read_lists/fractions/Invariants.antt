use Rattle.std.proofs.Common.{◌≡◌, ◌-◌}
use Rattle.fraction.specs.Checked.{is_small}
use Rattle.event_codec.specs.Reading.{fraction_at, elements_at}
use Rattle.event_codec.proofs.Loops.{with_front}
use Rattle.event_codec.proofs.read_lists.fractions.Given as goal

abbrev pub invariant-loop : goal.invariant-loop
invariant-loop l = with_front l.point (elements_at (fraction_at l.enc is_small) (l.count - l.counter) l.cursor) ≡ elements_at (fraction_at l.enc is_small) l.count l.fn.cursor
