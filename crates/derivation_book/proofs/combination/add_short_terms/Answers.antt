use Rattle.std.proofs.Common.{◌≡◌, ◌∙◌, ap, sym, subst, refl, arith, drop, length}
use Rattle.problem.specs.Rising.{AreRising}
use Rattle.derivation_book.specs.Adding.{columns_added}
use Rattle.derivation_book.specs.Lemmas.Columns.{still_rising, next_added}
use Rattle.derivation_book.proofs.combination.add_short_terms.Goals as goal

pub returns-clause-rising : goal.returns-clause-rising
returns-clause-rising c =
    let all : c.loop-index.index ≡ length c.args.terms.now = omega (arith, c.loop-index-test.false, c.loop-index.auto.index-end) in
    subst (λ i. AreRising (drop i c.args.terms.now)) all c.loop-index.invariant.rising

pub loop-index-preserved : goal.loop-index-preserved
loop-index-preserved c = record {
  held = c.if-not-add_short_term.ensures.held;
  rising = still_rising c.loop-index.sums c.args.factor c.args.terms.now c.loop-index.index c.index-terms-index.result c.loop-index-test.true c.index-terms-index.is
      c.loop-index.invariant.held c.loop-index.invariant.rising;
  left = next_added c.loop-index.sums c.args.factor c.args.terms.now c.loop-index.index c.index-terms-index.result c.loop-index-test.true c.index-terms-index.is
      c.loop-index.invariant.held c.loop-index.invariant.rising c.index-terms-index.result c.add_short_term.new.sums refl (c.if-not-add_short_term.ensures.added refl)
      ∙ c.loop-index.invariant.left;
}

pub returns-clause-left : goal.returns-clause-left
returns-clause-left c =
    let all : c.loop-index.index ≡ length c.args.terms.now = omega (arith, c.loop-index-test.false, c.loop-index.auto.index-end) in
    ap (λ i. columns_added c.loop-index.sums 0 c.args.factor (drop i c.args.terms.now)) (sym all) ∙ c.loop-index.invariant.left
