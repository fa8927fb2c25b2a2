use Rattle.std.proofs.Common.{◌<◌, refl, subst, arith, length}
use Rattle.std.specs.Prelude.{All, ℕ}
use Rattle.std.proofs.lemmas.List.{take_all}
use Rattle.std.proofs.lemmas.List.Elements.{All-more}
use Rattle.fraction.specs.Rational.{ℚ}
use Rattle.problem.proofs.terms.all_whole.Goals as goal
use Rattle.fraction.specs.Whole.{IsWhole}

pub loop-item-preserved : goal.loop-item-preserved
loop-item-preserved c = All-more (λ (t : ℕ × ℚ). IsWhole t.1) c.args.items.now c.loop-item.item-index c.item-item.result (let l : c.loop-item.item-index < length c.args.items.now = omega arith in l) c.loop-item.invariant
    (subst (λ (t : ℕ × ℚ). IsWhole t.1) c.item-item.is (subst IsWhole c.coefficient.ensures (c.is_whole.ensures.0 c.if-not-is_whole.false)))

pub returns : goal.returns
returns c = (λ _. subst (All (λ (t : ℕ × ℚ). IsWhole t.1)) (take_all _ _ (omega arith)) c.loop-item.invariant, λ _. refl)
