use Rattle.std.proofs.Common.{◌≡◌, ◌≤◌, ◌++◌, length}
use Rattle.std.specs.Vec.Iter.{into_iter_items}
use Rattle.derivation_book.specs.Cuts.{AreCutsAfter}
use Rattle.crew.proofs.cuts.add_cuts.Given as goal

abbrev pub invariant-loop-row : goal.invariant-loop-row
invariant-loop-row l = record {
  left : AreCutsAfter l.problem l.book.cuts (into_iter_items l.row-iterator);
  all : l.book.cuts ++ into_iter_items l.row-iterator ≡ l.fn.book.cuts ++ l.fn.cuts.items;
  room : length (into_iter_items l.row-iterator) ≤ l.book.room;
}
