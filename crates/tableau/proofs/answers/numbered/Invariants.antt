use Rattle.std.proofs.Common.{◌≡◌, drop, ◌++◌}
use Rattle.tableau.specs.Multipliers.{numbered}
use Rattle.tableau.proofs.answers.numbered.Given as goal

abbrev pub invariant-loop-i : goal.invariant-loop-i
invariant-loop-i l = l.named ++ numbered (drop l.i l.numbers) (drop l.i l.multipliers) ≡ numbered l.numbers l.multipliers
