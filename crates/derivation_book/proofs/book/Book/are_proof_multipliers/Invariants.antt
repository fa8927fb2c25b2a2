use Rattle.std.proofs.Common.{◌≡◌, take, true}
use Rattle.std.specs.List.{list_all}
use Rattle.derivation_book.specs.Legal.{is_proof_multiplier}
use Rattle.derivation_book.proofs.book.Book.are_proof_multipliers.Given as goal

abbrev pub invariant-loop-multiplier : goal.invariant-loop-multiplier
invariant-loop-multiplier l = list_all (is_proof_multiplier l.problem l.self.cuts) (take l.multiplier-index l.mult) ≡ true
