use Rattle.std.proofs.Common.{◌≡◌, drop, ◌++◌, nat_abs}
use Rattle.tableau.specs.Multipliers.{numbered}
use Rattle.integer_tableau.specs.Positions.{coefficients}
use Rattle.integer_tableau.proofs.named_coefficients.named_coefficients.Given as goal

abbrev pub invariant-loop-i : goal.invariant-loop-i
invariant-loop-i l = l.named ++ numbered (drop l.i l.numbers) (coefficients (nat_abs l.denominator) (drop l.i l.positions) l.row) ≡ numbered l.numbers (coefficients (nat_abs l.denominator) l.positions l.row)
