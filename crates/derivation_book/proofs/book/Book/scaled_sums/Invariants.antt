use Rattle.std.proofs.Common.{take, length}
use Rattle.derivation_book.specs.Known.{known_lines}
use Rattle.derivation_book.proofs.WholeSums.{AreScaledSums}
use Rattle.derivation_book.proofs.book.Book.scaled_sums.Given as goal

abbrev pub invariant-loop-multiplier : goal.invariant-loop-multiplier
invariant-loop-multiplier l = AreScaledSums (known_lines l.problem l.self.cuts) l.denominator (take l.multiplier-index l.mult) (length l.problem.spans) l.sums
