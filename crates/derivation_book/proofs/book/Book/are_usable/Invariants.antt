use Rattle.std.proofs.Common.{◌≡◌, take, true}
use Rattle.std.specs.List.{list_all}
use Rattle.derivation_book.specs.Known.{known_lines}
use Rattle.derivation_book.specs.Rounded.{is_usable}
use Rattle.derivation_book.proofs.book.Book.are_usable.Given as goal

abbrev pub invariant-loop-multiplier : goal.invariant-loop-multiplier
invariant-loop-multiplier l = list_all (is_usable (known_lines l.problem l.self.cuts)) (take l.multiplier-index l.mult) ≡ true
