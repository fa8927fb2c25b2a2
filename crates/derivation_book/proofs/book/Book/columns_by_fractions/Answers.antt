use Rattle.std.proofs.Common.{◌≡◌, ◌∙◌, ◌+◌, ◌++◌, sym, ap, subst, arith, length, take, drop, Some}
use Rattle.std.specs.Prelude.{All}
use Rattle.std.proofs.Math.Seq.{take-append_seam}
use Rattle.fraction.specs.Fits.{FitsFraction}
use Rattle.cert_rows.specs.Lines.{row_at}
use Rattle.derivation_book.specs.Known.{known_lines}
use Rattle.derivation_book.specs.Adding.{columns_added}
use Rattle.derivation_book.specs.Lemmas.Columns.{held_columns}
use Rattle.derivation_book.specs.Lemmas.Combining.{columns_from}
use Rattle.derivation_book.proofs.ByColumns.{held_zeros, first_columns, next_columns, next_columns_cramped, all_columns}
use Rattle.derivation_book.proofs.book.Book.columns_by_fractions.Goals as goal

pub loop-multiplier-init : goal.loop-multiplier-init
loop-multiplier-init c = record {
  held = subst (All FitsFraction) (sym c.in_ok-sums.ensures) (held_zeros c.columns.result);
  rest = first_columns (known_lines c.args.problem.now c.args.self.now.cuts) c.args.mult.now _ _ c.columns.ensures c.in_ok-sums.sums.items c.in_ok-sums.ensures;
}

pub returns-then-not-add_coefficients-clause-none : goal.returns-then-not-add_coefficients-clause-none
returns-then-not-add_coefficients-clause-none c =
    sym c.loop-multiplier.invariant.rest
    ∙ next_columns_cramped (known_lines c.args.problem.now c.args.self.now.cuts) c.args.mult.now c.loop-multiplier.multiplier-index c.multiplier-item.result
    (omega arith) c.multiplier-item.is c.pair-number.result c.pair-number.ensures c.loop-multiplier.sums.items
    (ap (λ ss. columns_added ss 0 c.pair-number.result.1 (row_at (known_lines c.args.problem.now c.args.self.now.cuts) c.pair-number.result.0).terms) (sym c.deref_mut.ensures.value)
    ∙ c.if-not-add_coefficients.ensures.sums)

pub loop-multiplier-preserved : goal.loop-multiplier-preserved
loop-multiplier-preserved c =
    let e : columns_added c.loop-multiplier.sums.items 0 c.pair-number.result.1 (row_at (known_lines c.args.problem.now c.args.self.now.cuts) c.pair-number.result.0).terms ≡ Some c.add_coefficients.new.sums =
    ap (λ ss. columns_added ss 0 c.pair-number.result.1 (row_at (known_lines c.args.problem.now c.args.self.now.cuts) c.pair-number.result.0).terms) (sym c.deref_mut.ensures.value)
    ∙ c.if-not-add_coefficients.ensures.sums in
    let h = held_columns c.loop-multiplier.sums.items 0 c.pair-number.result.1 (row_at (known_lines c.args.problem.now c.args.self.now.cuts) c.pair-number.result.0).terms c.add_coefficients.new.sums e in
    let n : length c.add_coefficients.new.sums ≡ c.loop-multiplier.sums.len = h.1 ∙ ap length (sym c.deref_mut.ensures.value) ∙ c.deref_mut.ensures.len in
    let same : take c.loop-multiplier.sums.len (c.add_coefficients.new.sums ++ drop (length c.add_coefficients.new.sums) c.loop-multiplier.sums.items) ≡ c.add_coefficients.new.sums =
    ap (λ k. take k (c.add_coefficients.new.sums ++ drop (length c.add_coefficients.new.sums) c.loop-multiplier.sums.items)) (sym n)
    ∙ take-append_seam c.add_coefficients.new.sums (drop (length c.add_coefficients.new.sums) c.loop-multiplier.sums.items) in
    record {
      held = subst (All FitsFraction) (sym same) h.0;
      rest = ap (columns_from (known_lines c.args.problem.now c.args.self.now.cuts) (drop (c.loop-multiplier.multiplier-index + 1) c.args.mult.now) 0) same
          ∙ next_columns (known_lines c.args.problem.now c.args.self.now.cuts) c.args.mult.now c.loop-multiplier.multiplier-index c.multiplier-item.result
          (omega arith) c.multiplier-item.is c.pair-number.result c.pair-number.ensures c.loop-multiplier.sums.items c.add_coefficients.new.sums e
          ∙ c.loop-multiplier.invariant.rest;
    }

pub returns-clause-some : goal.returns-clause-some
returns-clause-some c =
    sym c.loop-multiplier.invariant.rest
    ∙ all_columns (known_lines c.args.problem.now c.args.self.now.cuts) c.args.mult.now c.loop-multiplier.multiplier-index c.loop-multiplier.sums.items (omega arith)
