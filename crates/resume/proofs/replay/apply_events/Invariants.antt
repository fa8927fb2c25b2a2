use Rattle.std.specs.Vec.Iter.{into_iter_items}
use Rattle.dual_simplex.specs.Prepared.{IsKept}
use Rattle.resume.proofs.Applying.{IsOnTheWay}
use Rattle.resume.proofs.replay.apply_events.Given as goal

abbrev pub invariant-loop-event : goal.invariant-loop-event
invariant-loop-event l = IsOnTheWay l.fn.state l.state l.fn.events.items (into_iter_items l.event-iterator) × IsKept l.state.state.problem l.state.state.cuts l.kept
