use Rattle.std.proofs.Common.{◌≡◌, drop, length}
use Rattle.std.specs.Prelude.{All}
use Rattle.fraction.specs.Fits.{FitsFraction}
use Rattle.derivation_book.specs.Known.{known_lines}
use Rattle.derivation_book.specs.Sums.{combined_columns}
use Rattle.derivation_book.specs.Lemmas.Combining.{columns_from}
use Rattle.derivation_book.proofs.book.Book.columns_by_fractions.Given as goal

abbrev pub invariant-loop-multiplier : goal.invariant-loop-multiplier
invariant-loop-multiplier l = record {
  held : All FitsFraction l.sums.items;
  rest : columns_from (known_lines l.problem l.self.cuts) (drop l.multiplier-index l.mult) 0 l.sums.items ≡ combined_columns (known_lines l.problem l.self.cuts) l.mult 0 (length l.problem.spans);
}
