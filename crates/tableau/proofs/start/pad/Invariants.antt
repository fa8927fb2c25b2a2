use Rattle.std.proofs.Common.{◌≡◌, ◌++◌, replicate}
use Rattle.tableau.specs.Elimination.{zero_ℚ}
use Rattle.tableau.proofs.start.pad.Given as goal

abbrev pub invariant-loop : goal.invariant-loop
invariant-loop l = l.numbers.items ≡ l.fn.numbers.items ++ replicate l.counter zero_ℚ
