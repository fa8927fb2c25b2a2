use Rattle.std.proofs.Common.{◌≡◌, ◌≤◌, ◌+◌, ◌*◌, drop}
use Rattle.std.specs.Prelude.{nat_abs, map}
use Rattle.fraction.specs.Rational.{frac, whole}
use Rattle.problem.specs.Rising.{RiseFrom}
use Rattle.derivation_book.specs.OverOne.{over}
use Rattle.derivation_book.specs.Price.{with_columns}
use Rattle.derivation_book.proofs.integer_price.price_numerator.Given as goal
use Rattle.derivation_book.specs.Sizes.{largest_addend}

abbrev pub invariant-loop-column : goal.invariant-loop-column
invariant-loop-column l = record {
  rising : RiseFrom l.column (drop l.next l.target);
  small : nat_abs l.total ≤ (l.column + 1) * largest_addend;
  left : with_columns (frac l.total l.denominator) (drop l.next l.target) l.column (drop l.column (map (over l.denominator) (map whole l.coefficients))) (drop l.column l.area)
      ≡ with_columns (frac l.fn.side l.denominator) l.target 0 (map (over l.denominator) (map whole l.coefficients)) l.area;
}
