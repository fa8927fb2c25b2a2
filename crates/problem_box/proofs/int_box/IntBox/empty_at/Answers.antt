use Rattle.std.proofs.Common.{◌<◌, ◌∙◌, subst, arith, length}
use Rattle.std.specs.Prelude.{All, ◌≤ℤ◌, pos}
use Rattle.std.proofs.lemmas.Int.{ints}
use Rattle.std.proofs.lemmas.List.{take_all}
use Rattle.std.proofs.lemmas.List.Elements.{All-more}
use Rattle.problem_box.specs.declared.span.Span.{Span}
use Rattle.problem_box.proofs.int_box.IntBox.empty_at.Goals as goal

pub loop-j-preserved : goal.loop-j-preserved
loop-j-preserved c = All-more (λ (s : Span). s.lo ≤ℤ s.hi) c.deref-span-items.result.now c.loop-j.j (record { lo = pos 0; hi = pos 0 }) (let l : c.loop-j.j < length c.deref-span-items.result.now = omega arith in l) c.loop-j.invariant (grind (arith, ints))

pub returns-clause-none : goal.returns-clause-none
returns-clause-none c = subst (All (λ (s : Span). s.lo ≤ℤ s.hi)) (take_all _ _ (omega arith) ∙ c.deref-span-items.ensures.value ∙ c.self.view_is) c.loop-j.invariant
