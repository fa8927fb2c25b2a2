use Rattle.std.proofs.Common.{◌≡◌, drop}
use Rattle.problem.specs.Rising.{RiseFrom}
use Rattle.derivation_book.specs.Price.{with_columns}
use Rattle.derivation_book.proofs.price.with_short_columns.Given as goal

abbrev pub invariant-loop-column : goal.invariant-loop-column
invariant-loop-column l = record {
  rising : RiseFrom l.column (drop l.next l.target);
  left : with_columns l.total (drop l.next l.target) l.column (drop l.column l.coefficients) (drop l.column l.area) ≡ with_columns l.fn.side l.target 0 l.coefficients l.area;
}
