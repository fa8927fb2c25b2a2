use Rattle.std.proofs.Common.{◌≡◌, map, take}
use Rattle.integer_tableau.specs.IntegerTableau.{fraction_bounds}
use Rattle.integer_tableau.proofs.conversion.all_bounds.Given as goal

abbrev pub invariant-loop-own : goal.invariant-loop-own
invariant-loop-own l = l.all.items ≡ map fraction_bounds (take l.own-index l.bounds)
