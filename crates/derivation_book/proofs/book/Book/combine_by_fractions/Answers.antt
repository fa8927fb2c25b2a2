use Rattle.std.proofs.Common.{◌∙◌, sym, arith}
use Rattle.derivation_book.specs.Known.{known_lines}
use Rattle.derivation_book.specs.Lemmas.Combining.{first_combined, next_combined, next_cramped, all_combined}
use Rattle.derivation_book.proofs.book.Book.combine_by_fractions.Goals as goal

pub loop-multiplier-init : goal.loop-multiplier-init
loop-multiplier-init c = first_combined (known_lines c.args.problem.now c.args.self.now.cuts) c.args.mult.now _ _ c.columns.ensures c.in_ok-sums.sums c.in_ok-sums.ensures

pub returns-then-not-add_known : goal.returns-then-not-add_known
returns-then-not-add_known c =
    sym (next_cramped (known_lines c.args.problem.now c.args.self.now.cuts) c.args.mult.now c.loop-multiplier.multiplier-index c.multiplier-item.result
    (omega arith) c.multiplier-item.is c.pair-number.result c.pair-number.ensures c.loop-multiplier.sums c.if-not-add_known.ensures)
    ∙ c.loop-multiplier.invariant

pub loop-multiplier-preserved : goal.loop-multiplier-preserved
loop-multiplier-preserved c =
    next_combined (known_lines c.args.problem.now c.args.self.now.cuts) c.args.mult.now c.loop-multiplier.multiplier-index c.multiplier-item.result
    (omega arith) c.multiplier-item.is c.pair-number.result c.pair-number.ensures c.loop-multiplier.sums c.add_known.new.sums c.if-not-add_known.ensures
    ∙ c.loop-multiplier.invariant

pub returns : goal.returns
returns c =
    sym (all_combined (known_lines c.args.problem.now c.args.self.now.cuts) c.args.mult.now c.loop-multiplier.multiplier-index c.loop-multiplier.sums (omega arith))
    ∙ c.loop-multiplier.invariant
