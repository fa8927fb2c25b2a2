use Rattle.std.proofs.Common.{◌∙◌, arith, drop}
use Rattle.derivation_book.specs.Lemmas.Price.{next_column}
use Rattle.derivation_book.proofs.price.with_short_columns.Goals as goal

pub loop-column-preserved : goal.loop-column-preserved
loop-column-preserved c = record {
  rising = c.wanted_at-wanted.ensures.rising;
  left = next_column c.args.coefficients.now c.args.area.now c.loop-column.column c.index-coefficients-column.result (omega arith) c.index-coefficients-column.is c.requires.columns
      c.span.result c.span.ensures c.loop-column.total c.wanted_at-wanted.result.0 (drop c.loop-column.next c.args.target.now) c.wanted_at-wanted.ensures.coefficient
      c.in-Some.sum (drop c.wanted_at-wanted.result.1 c.args.target.now) c.in-Some.ensures c.wanted_at-wanted.ensures.later
      ∙ c.loop-column.invariant.left;
}
