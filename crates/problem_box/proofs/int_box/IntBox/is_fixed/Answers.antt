use Rattle.std.proofs.Common.{◌≡◌, ◌<◌, refl, ◌∙◌, subst, arith, length}
use Rattle.std.specs.Prelude.{All, pos}
use Rattle.std.proofs.lemmas.Int.{ints}
use Rattle.std.proofs.lemmas.List.{take_all}
use Rattle.std.proofs.lemmas.List.Elements.{All-more}
use Rattle.problem_box.specs.declared.span.Span.{Span}
use Rattle.problem_box.proofs.int_box.IntBox.is_fixed.Goals as goal

pub loop-span-preserved : goal.loop-span-preserved
loop-span-preserved c = All-more (λ (s : Span). s.lo ≡ s.hi) c.deref-span-items.result.now c.loop-span.span-index (record { lo = pos 0; hi = pos 0 }) (let l : c.loop-span.span-index < length c.deref-span-items.result.now = omega arith in l) c.loop-span.invariant (grind (arith, ints))

pub returns : goal.returns
returns c = (λ _. subst (All (λ (s : Span). s.lo ≡ s.hi)) (take_all _ _ (omega arith) ∙ c.deref-span-items.ensures.value ∙ c.self.view_is) c.loop-span.invariant, λ _. refl)
