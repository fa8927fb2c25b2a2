use Rattle.std.proofs.Common.{◌∙◌, ap, sym, arith, rules, length}
use Rattle.std.specs.Int.{w64}
use Rattle.std.proofs.lemmas.Int.{to_z-of_z}
use mir.Val.{SFits, to_z, of_z}
use Rattle.fraction.specs.Rational.{frac}
use Rattle.derivation_book.specs.Known.{known_lines}
use Rattle.derivation_book.proofs.WholeSums.{first_scaled, next_scaled, all_scaled}
use Rattle.derivation_book.proofs.book.Book.scaled_sums.Goals as goal

pub loop-multiplier-init : goal.loop-multiplier-init
loop-multiplier-init c =
    first_scaled (known_lines c.args.problem.now c.args.self.now.cuts) c.in-Some.denominator (length c.args.problem.now.spans) _ c.in_ok-sums.sums c.columns.ensures c.in_ok-sums.ensures

pub loop-multiplier-preserved : goal.loop-multiplier-preserved
loop-multiplier-preserved c =
    let z = c.in-Some-times.scaled in
    let z_fits : SFits w64 z = search rules in
    next_scaled (known_lines c.args.problem.now c.args.self.now.cuts) c.in-Some.denominator c.args.mult.now (length c.args.problem.now.spans) c.loop-multiplier.sums c.add_whole_row.new.sums
    c.loop-multiplier.multiplier-index c.multiplier-item.result c.pair-number.result (to_z w64 (of_z w64 z)) (omega arith) c.multiplier-item.is c.pair-number.ensures
    (c.in-Some-times.ensures ∙ ap (λ n. frac n c.in-Some.denominator) (sym (to_z-of_z w64 z z_fits)))
    (c.add_whole_row.ensures.whole c.if-not-add_whole_row.false) (c.add_whole_row.ensures.added c.if-not-add_whole_row.false) c.loop-multiplier.invariant

pub returns-clause-sums : goal.returns-clause-sums
returns-clause-sums c =
    all_scaled (known_lines c.args.problem.now c.args.self.now.cuts) c.in-Some.denominator c.args.mult.now (length c.args.problem.now.spans) c.loop-multiplier.sums c.loop-multiplier.multiplier-index
    (omega arith) c.in-Some.ensures.positive (omega (arith, c.in-Some.ensures.small)) c.loop-multiplier.invariant
