use Rattle.std.proofs.Common.{◌≡◌, take}
use Rattle.expand.specs.Verdicts.{corner}
use Rattle.expand.proofs.corners.corner.Given as goal

abbrev pub invariant-loop-column : goal.invariant-loop-column
invariant-loop-column l = l.items.items ≡ take l.column (corner l.area)
