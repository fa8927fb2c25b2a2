use Rattle.std.proofs.Common.{All, take}
use Rattle.vipr_print.specs.Unique.{IsShortPoint}
use Rattle.vipr_print.proofs.sizes.points_are_short.Given as goal

abbrev pub invariant-loop-point : goal.invariant-loop-point
invariant-loop-point l = All IsShortPoint (take l.point-index l.points)
