use Rattle.std.proofs.Common.{◌≡◌, take}
use Rattle.expand.specs.Settling.{floors}
use Rattle.expand.proofs.whole_point.floors.Given as goal

abbrev pub invariant-loop-column : goal.invariant-loop-column
invariant-loop-column l = l.numbers.items ≡ take l.column (floors l.point)
