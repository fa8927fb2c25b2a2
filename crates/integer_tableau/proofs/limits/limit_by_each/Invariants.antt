use Rattle.std.proofs.Common.{nat_abs}
use Rattle.integer_tableau.proofs.SmallTimes.{AreSoFarWithin}
use Rattle.integer_tableau.proofs.limits.limit_by_each.Given as goal

abbrev pub invariant-loop-i : goal.invariant-loop-i
invariant-loop-i l = AreSoFarWithin l.i l.limit (nat_abs l.denominator) l.program_rows l.positions l.rows l.reduced_costs
