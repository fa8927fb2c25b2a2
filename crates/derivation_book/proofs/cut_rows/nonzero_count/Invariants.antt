use Rattle.std.proofs.Common.{◌≡◌, ◌≤◌, ◌+◌, length, drop}
use Rattle.derivation_book.specs.Rounded.{nonzero_terms}
use Rattle.derivation_book.proofs.cut_rows.nonzero_count.Given as goal

abbrev pub invariant-loop-coefficient : goal.invariant-loop-coefficient
invariant-loop-coefficient l = record {
  few : l.count ≤ l.coefficient-index;
  rest : l.count + length (nonzero_terms l.coefficient-index (drop l.coefficient-index l.coefficients)) ≡ length (nonzero_terms 0 l.coefficients);
}
