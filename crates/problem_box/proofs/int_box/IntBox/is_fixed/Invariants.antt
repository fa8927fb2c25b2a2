use Rattle.std.proofs.Common.{take, ◌≡◌}
use Rattle.std.specs.Prelude.{All}
use Rattle.problem_box.specs.declared.span.Span.{Span}
use Rattle.problem_box.proofs.int_box.IntBox.is_fixed.Given as goal

abbrev pub invariant-loop-span : goal.invariant-loop-span
invariant-loop-span l = All (λ (s : Span). s.lo ≡ s.hi) (take l.span-index l.span-items)
