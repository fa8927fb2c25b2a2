use Rattle.std.proofs.Common.{take}
use Rattle.std.specs.Prelude.{All, ◌≤ℤ◌}
use Rattle.problem_box.specs.declared.span.Span.{Span}
use Rattle.problem_box.proofs.int_box.IntBox.first_free.Given as goal

abbrev pub invariant-loop-j : goal.invariant-loop-j
invariant-loop-j l = All (λ (s : Span). s.hi ≤ℤ s.lo) (take l.j l.span-items)
