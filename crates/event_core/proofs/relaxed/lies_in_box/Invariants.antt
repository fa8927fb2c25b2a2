use Rattle.std.proofs.Common.{◌≡◌, drop}
use Rattle.event_core.specs.Relaxed.{lies_in_box}
use Rattle.event_core.proofs.relaxed.lies_in_box.Given as goal

abbrev pub invariant-loop-column : goal.invariant-loop-column
invariant-loop-column l = lies_in_box (drop l.column l.area) (drop l.column l.point) ≡ lies_in_box l.area l.point
