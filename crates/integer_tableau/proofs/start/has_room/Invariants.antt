use Rattle.std.proofs.Common.{◌≡◌, take}
use Rattle.integer_tableau.specs.Combined.{total_bound_size}
use Rattle.integer_tableau.proofs.start.has_room.Given as goal

abbrev pub invariant-loop-own : goal.invariant-loop-own
invariant-loop-own l = l.total ≡ total_bound_size (take l.own-index l.bounds)
