use Rattle.std.proofs.Common.{◌≡◌, ◌++◌, drop}
use Rattle.fraction.specs.Rational.{frac}
use Rattle.derivation_book.specs.Rounded.{nonzero_terms}
use Rattle.gomory_cuts.specs.Candidate.{fractions, counted_columns, filled_side}
use Rattle.gomory_cuts.proofs.candidate.filled_numbers.Given as goal

abbrev pub invariant-loop-column : goal.invariant-loop-column
invariant-loop-column l =
    let d = l.numerators.denominator in
    let zs = l.numerators.coefficients.items in
    record {
      terms : l.terms ++ nonzero_terms l.column (counted_columns l.point l.tableau l.column (fractions d (drop l.column zs))) ≡ nonzero_terms 0 (counted_columns l.point l.tableau 0 (fractions d zs));
      side : filled_side l.tableau l.column (fractions d (drop l.column zs)) (drop l.column l.problem.spans) (frac l.side d) ≡ filled_side l.tableau 0 (fractions d zs) l.problem.spans (frac l.numerators.side d);
    }
