use Rattle.std.proofs.Common.{arith, sym, ◌∙◌}
use Rattle.derivation_book.specs.Lemmas.Columns.{still_rising, next_added, next_cramped, all_added}
use Rattle.derivation_book.proofs.combination.add_any_terms.Goals as goal

pub returns-then-not-add_term-clause-sums : goal.returns-then-not-add_term-clause-sums
returns-then-not-add_term-clause-sums c =
    sym c.loop-term.invariant.left
    ∙ next_cramped c.loop-term.sums c.args.factor c.args.terms.now c.loop-term.term-index c.term-item.result (omega arith) c.term-item.is
    c.loop-term.invariant.held c.loop-term.invariant.rising c.pair-column.result c.pair-column.ensures c.if-not-add_term.ensures.sums

pub loop-term-preserved : goal.loop-term-preserved
loop-term-preserved c = record {
  held = c.if-not-add_term.ensures.held;
  rising = still_rising c.loop-term.sums c.args.factor c.args.terms.now c.loop-term.term-index c.term-item.result (omega arith) c.term-item.is
      c.loop-term.invariant.held c.loop-term.invariant.rising;
  left = next_added c.loop-term.sums c.args.factor c.args.terms.now c.loop-term.term-index c.term-item.result (omega arith) c.term-item.is
      c.loop-term.invariant.held c.loop-term.invariant.rising c.pair-column.result c.add_term.new.sums c.pair-column.ensures c.if-not-add_term.ensures.sums
      ∙ c.loop-term.invariant.left;
}

pub returns-clause-sums : goal.returns-clause-sums
returns-clause-sums c =
    sym c.loop-term.invariant.left ∙ all_added c.loop-term.sums c.args.factor c.args.terms.now c.loop-term.term-index (omega arith) c.loop-term.invariant.held
