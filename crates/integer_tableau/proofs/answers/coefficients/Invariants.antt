use Rattle.std.proofs.Common.{◌≡◌, nat_abs, map, take}
use Rattle.integer_tableau.specs.Positions.{coefficient}
use Rattle.integer_tableau.proofs.answers.coefficients.Given as goal

abbrev pub invariant-loop-position : goal.invariant-loop-position
invariant-loop-position l = l.all.items ≡ map (coefficient (nat_abs l.denominator) l.row) (take l.position-index l.positions)
