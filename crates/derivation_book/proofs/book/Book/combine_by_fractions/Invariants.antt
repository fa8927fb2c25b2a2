use Rattle.std.proofs.Common.{◌≡◌, drop, length}
use Rattle.derivation_book.specs.Known.{known_lines}
use Rattle.derivation_book.specs.Sums.{combined}
use Rattle.derivation_book.specs.Lemmas.Combining.{combined_from}
use Rattle.derivation_book.proofs.book.Book.combine_by_fractions.Given as goal

abbrev pub invariant-loop-multiplier : goal.invariant-loop-multiplier
invariant-loop-multiplier l =
    combined_from (known_lines l.problem l.self.cuts) (drop l.multiplier-index l.mult) l.sums ≡ combined (known_lines l.problem l.self.cuts) l.mult (length l.problem.spans)
