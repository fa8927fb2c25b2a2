use Rattle.std.proofs.Common.{◌≡◌, map, take}
use Rattle.integer_tableau.specs.IntegerTableau.{fraction_bounds}
use Rattle.integer_tableau.proofs.integer_program.all_bounds.Given as goal

abbrev pub invariant-loop-bounds : goal.invariant-loop-bounds
invariant-loop-bounds l = map fraction_bounds l.integers.items ≡ take l.bounds-index l.all
