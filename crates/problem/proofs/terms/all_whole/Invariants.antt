use Rattle.std.proofs.Common.{take}
use Rattle.std.specs.Prelude.{All, ℕ}
use Rattle.fraction.specs.Rational.{ℚ}
use Rattle.problem.proofs.terms.all_whole.Given as goal
use Rattle.fraction.specs.Whole.{IsWhole}

abbrev pub invariant-loop-item : goal.invariant-loop-item
invariant-loop-item l = All (λ (t : ℕ × ℚ). IsWhole t.1) (take l.item-index l.items)
