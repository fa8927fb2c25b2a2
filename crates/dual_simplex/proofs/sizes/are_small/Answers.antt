use Rattle.std.proofs.Common.{ℕ, sym, subst, arith}
use Rattle.std.proofs.lemmas.List.{take_all}
use Rattle.std.proofs.lemmas.List.Elements.{All-more, All-same}
use Rattle.fraction.specs.Rational.{ℚ}
use Rattle.dual_simplex.specs.Sizes.{IsIntegerTo, largest_integer}
use Rattle.dual_simplex.proofs.sizes.are_small.Goals as goal

pub loop-term-preserved : goal.loop-term-preserved
loop-term-preserved c =
    All-more (λ (t : ℕ × ℚ). IsIntegerTo largest_integer t.1) c.args.terms.now c.loop-term.term-index c.term-item.result (omega arith) c.loop-term.invariant
    (subst (λ (t : ℕ × ℚ). IsIntegerTo largest_integer t.1) c.term-item.is (subst (IsIntegerTo largest_integer) c.coefficient.ensures (c.is_small.ensures c.if-not-is_small.false)))

pub returns : goal.returns
returns c = λ q. record {
  rising = c.requires;
  coefficients = All-same (λ (t : ℕ × ℚ). IsIntegerTo largest_integer t.1) c.args.terms.now _ (sym (take_all c.loop-term.term-index c.args.terms.now (omega arith))) c.loop-term.invariant;
}
